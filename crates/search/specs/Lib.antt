pub mod BigEndian
pub mod ByKey
