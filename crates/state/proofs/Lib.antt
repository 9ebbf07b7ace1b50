pub mod KeyLaws
pub mod PassLaws
pub mod CheckLaws
pub mod FreshSizes
