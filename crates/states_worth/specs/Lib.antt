-- The utility of states that are words.
pub mod Worth
