pub mod OneCommand
pub mod Counts
pub mod NothingLost
pub mod OnStates
pub mod StreamDemand
pub mod RunExamples
pub mod Turns
