pub mod Turn
pub mod Whole
