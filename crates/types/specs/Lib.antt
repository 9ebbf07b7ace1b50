pub mod Addresses
pub mod Paths
pub mod Values
pub mod Senders
