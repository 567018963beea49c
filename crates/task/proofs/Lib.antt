-- Laws that belong to no one function, and what an accepted file is known to be.
pub mod Laws
pub mod Acceptance
pub mod Goodness
pub mod CodingLaws
