pub mod Select
pub mod Selecting
pub mod Lawful
