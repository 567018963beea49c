-- The definitions of the answer of the engine that lists states: what is lent, and what is answered.
pub mod Lent
pub mod Answers
pub mod States
