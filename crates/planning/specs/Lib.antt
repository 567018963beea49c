-- Tasks, plans, the best plan; states as bits; the stand tasks P and Q.
pub mod Connectives
pub mod Model
pub mod Coding
pub mod Best
pub mod Ceiling
pub mod ByCost
pub mod Pairs
pub mod Exhaustive
pub mod Cases
pub mod Scan
pub mod Good
