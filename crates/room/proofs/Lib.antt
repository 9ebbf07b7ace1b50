pub mod ClosedForm
pub mod RowsAside
pub mod WalkCounts
pub mod ChosenVictims
pub mod LeftVictims
pub mod ProbationVictims
pub mod RoomSettled
pub mod RoomToFile
