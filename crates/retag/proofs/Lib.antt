pub mod Codes
pub mod Tests
pub mod Grown
pub mod Children
pub mod Requests
