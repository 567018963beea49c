-- The stand cases of the engine that lists states.
pub mod Table
