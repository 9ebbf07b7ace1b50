pub mod Bytes
pub mod PathElements
