pub mod Widths
pub mod OnMemory
pub mod Reading
pub mod After
