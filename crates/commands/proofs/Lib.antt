pub mod Operands
pub mod UnknownCodes
pub mod FundingKind
pub mod TypedCommands
pub mod CommandLaws
