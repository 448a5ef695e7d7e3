pub mod Performed
pub mod Entered
