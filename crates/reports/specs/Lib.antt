pub mod Reported
pub mod Totals
pub mod Tallies
