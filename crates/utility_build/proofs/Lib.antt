-- Laws that belong to no one function.
pub mod Terms
pub mod Stages
