-- Laws that belong to no one function.
pub mod Growing
pub mod Looking
pub mod Walking
