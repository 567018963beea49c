pub mod Greatest
pub mod Walking
