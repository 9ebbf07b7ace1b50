pub mod Filings
pub mod InRoom
