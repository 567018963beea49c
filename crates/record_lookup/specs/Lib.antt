-- The record that is handed out.
pub mod Lookup
