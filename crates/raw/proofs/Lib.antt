pub mod MoveLaws
pub mod StoreLaws
pub mod NumberLaws
pub mod CopyLaws
