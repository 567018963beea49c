pub mod Values
pub mod Adding
pub mod Within
pub mod Stages
pub mod Valued
pub mod Reading
