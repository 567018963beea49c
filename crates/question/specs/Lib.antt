-- The definitions of the question, its answers, and what it says of a task.
pub mod Question
pub mod Answers
pub mod PairSets
pub mod Meaning
