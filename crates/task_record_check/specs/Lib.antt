-- What the search for a wrong record gives.
pub mod First
