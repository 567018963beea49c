-- What the list of states and the plan read off it mean for the task, and the demands on an answer.
pub mod Wanting
pub mod Handed
pub mod Outcome
pub mod Filed
pub mod Answers
pub mod Demands
