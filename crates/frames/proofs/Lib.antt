pub mod ByValue
pub mod FrameNumbers
pub mod Frames
pub mod FromValid
pub mod Rows
