pub mod Operands
pub mod Placements
pub mod Hints
