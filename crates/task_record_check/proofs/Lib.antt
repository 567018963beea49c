-- The first record that is wrong.
pub mod First
