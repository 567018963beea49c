pub mod Numbers
pub mod Permitted
pub mod Bounds
pub mod Making
pub mod Files
