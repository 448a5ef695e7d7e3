pub mod Written
pub mod Answer
pub mod Memory
pub mod Digits
pub mod Lanes
pub mod Page
