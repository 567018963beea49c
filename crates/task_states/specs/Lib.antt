-- What the file's facts, terms and cubes are.
pub mod States
pub mod Cubes
