-- Laws of the check's answer.
pub mod Laws
