-- The writer: the file that it writes, its answers, and when two files carry one task.
pub mod Canonical
pub mod Write
pub mod Answers
pub mod Same
