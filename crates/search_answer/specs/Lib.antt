-- The definitions of a search's answer: what is lent, and what is answered.
pub mod Lent
pub mod Answers
pub mod Search
