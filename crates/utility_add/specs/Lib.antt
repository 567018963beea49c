pub mod Sums
pub mod Adding
pub mod Adds
pub mod Lawful
