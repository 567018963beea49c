-- What lists that pass the tests say.
pub mod Passing
