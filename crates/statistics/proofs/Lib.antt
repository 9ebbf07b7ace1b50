pub mod Means
pub mod StatisticsCalls
