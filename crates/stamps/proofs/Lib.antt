pub mod StampedRows
pub mod LowestLaws
pub mod RowTotals
pub mod WalkLaws
