pub mod Walk
pub mod Answers
pub mod Meaning
