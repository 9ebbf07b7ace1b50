pub mod PathLaws
pub mod RowImage
pub mod InsertLaws
pub mod ExchangeLaws
