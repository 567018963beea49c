-- Laws that belong to no one function.
pub mod Rows
pub mod Sums
pub mod Worths
