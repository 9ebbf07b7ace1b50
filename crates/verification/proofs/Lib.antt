pub mod NoPlace
pub mod Marks
pub mod InPlace
pub mod VerifiedRows
pub mod RowKept
pub mod VerifiedCalls
