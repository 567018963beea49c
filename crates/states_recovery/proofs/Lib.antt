-- Laws that belong to no one function.
pub mod Least
pub mod Following
pub mod Wanted
pub mod Way
