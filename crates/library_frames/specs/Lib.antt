pub mod Settings
pub mod Retag
pub mod Outcome
pub mod EndCall
