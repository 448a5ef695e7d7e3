pub mod Fields
pub mod Entering
pub mod Performed
pub mod Masks
pub mod Lent
pub mod Again
pub mod LentCall
