pub mod Tree
pub mod Store
pub mod Memo
pub mod Walkable
pub mod Sets
