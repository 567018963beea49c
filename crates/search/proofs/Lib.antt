-- Laws that belong to no one function.
mod Inside
mod Late
mod Handed
mod Outcome
mod Answers
pub mod Demands
