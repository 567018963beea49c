-- Laws of states and of cubes.
pub mod StateLaws
pub mod ModelLaws
