-- The best plan, read off the marked list of states.
pub mod Recovery
