-- The task file: its numbers, its form, its check, and the task that it holds.
pub mod Limits
pub mod Bytes
pub mod Format
pub mod Decode
pub mod Check
pub mod Sound
pub mod Cases
