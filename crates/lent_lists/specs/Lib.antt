-- The tests of lent lists.
pub mod Lists
