pub mod Tests
pub mod Points
pub mod Leak
pub mod Reach
