-- Laws that belong to no one function.
pub mod Sums
pub mod Adding
