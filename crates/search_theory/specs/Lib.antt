-- The sets of document 01: levels, target and wanted sets, all sets made, and the plan that they give.
pub mod Sets
pub mod Bits
pub mod Passes
pub mod Levels
pub mod Optimum
pub mod Stop
pub mod Wanted
pub mod Made
pub mod Pairs
pub mod Plan
pub mod HeldSets
