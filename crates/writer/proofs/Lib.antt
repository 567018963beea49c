-- Laws of the writer; Theorems has what Paper 2 promises.
pub mod Overlays
pub mod Records
pub mod Room
pub mod Sections
pub mod Same
pub mod Readback
pub mod Writing
pub mod Theorems
