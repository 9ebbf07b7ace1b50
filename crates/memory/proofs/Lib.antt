pub mod Fields
pub mod RowBlocks
pub mod StoreRuns
pub mod RowLaws
pub mod KeepLaws
pub mod OwnedValues
pub mod RowSums
