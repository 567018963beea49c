-- Laws that belong to no one function.
pub mod Cases
pub mod Counted
pub mod Shapes
pub mod Adds
pub mod Within
pub mod Meaning
pub mod Values
pub mod Pairs
