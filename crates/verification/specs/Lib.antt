pub mod Mtu
pub mod Searches
pub mod Forms
pub mod Inserts
