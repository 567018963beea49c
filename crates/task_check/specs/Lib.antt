-- The file check's answers.
pub mod Answers
