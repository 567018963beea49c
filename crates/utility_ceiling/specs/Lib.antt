pub mod Permitted
pub mod Sets
