-- What the lists hold after the engine that lists states, and what an answer means.
pub mod Leaves
pub mod Meaning
