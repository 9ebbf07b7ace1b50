pub mod Runs
pub mod Streams
pub mod Running
