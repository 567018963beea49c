pub mod Steps
pub mod Meaning
pub mod Cases
