-- texts written one behind the other
pub mod Writes
pub mod Numbers
pub mod Lines
pub mod Rows
pub mod Parts
pub mod Held
pub mod Lengths
pub mod Walk
pub mod Given
pub mod Lanes
