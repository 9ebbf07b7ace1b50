pub mod FiledRows
pub mod RefiledRows
pub mod FiledOverVictim
pub mod FiledInRoom
pub mod RoomSought
