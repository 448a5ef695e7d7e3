pub mod Signed
pub mod Bytes
pub mod Widths
pub mod Folds
