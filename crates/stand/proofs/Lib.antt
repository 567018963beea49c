-- Laws that belong to no one function: bytes written.
pub mod Writes
