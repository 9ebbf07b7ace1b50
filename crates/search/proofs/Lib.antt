pub mod OrderLaws
pub mod BigEndianLaws
pub mod KeyBytes
pub mod RisingRows
pub mod SearchLaws
