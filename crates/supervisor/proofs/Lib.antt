pub mod Reports
pub mod Asked
pub mod Timed
pub mod Agree
