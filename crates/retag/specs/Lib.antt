pub mod Settings
pub mod Retag
