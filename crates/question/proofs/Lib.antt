-- Laws of the question, and what its answer says of a task (Theorem).
pub mod Places
pub mod States
pub mod Walking
pub mod Asking
pub mod Theorem
