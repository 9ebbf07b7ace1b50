pub mod SoundCalls
pub mod SearchedKeys
pub mod RefusalsSaid
pub mod WriteRefusals
