pub mod Progress
pub mod Came
