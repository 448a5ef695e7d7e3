pub mod Decoding
pub mod Runs
