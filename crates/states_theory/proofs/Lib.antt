-- Words as states, and what lists of states mean for a task.
pub mod Bits
pub mod Coded
pub mod Places
pub mod Tops
pub mod Plans
