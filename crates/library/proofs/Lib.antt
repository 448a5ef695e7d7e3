pub mod Served
pub mod Fine
pub mod Performed
pub mod Again
pub mod Loads
