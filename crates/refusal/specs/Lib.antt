-- The documents' numbers of the refusals.
pub mod Refusals
