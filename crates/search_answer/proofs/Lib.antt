-- Laws that belong to no one function.
pub mod Refusals
pub mod Table
