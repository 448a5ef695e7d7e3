pub mod Tests
pub mod Numbers
pub mod Turns
pub mod Sound
pub mod Complete
pub mod Walk
pub mod AtWidth
