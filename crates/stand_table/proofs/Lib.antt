-- The stand's files, and the table of the stand cases.
pub mod Files
pub mod Table
