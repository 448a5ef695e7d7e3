pub mod Arms
pub mod Codes
