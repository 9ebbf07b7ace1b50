pub mod ToldReplies
pub mod ToldRefusals
pub mod ToldLookups
