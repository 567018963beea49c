-- The definitions of the search: what the lists hold afterwards, and what an answer means.
pub mod Leaves
pub mod Permitted
pub mod PlanAnswer
pub mod Meaning
pub mod Structs
