-- What the functions that write the stand's files leave in lent bytes.
pub mod Bytes
