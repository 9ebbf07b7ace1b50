pub mod NewKeys
pub mod HeldKeys
pub mod PlacedHints
pub mod HintCalls
