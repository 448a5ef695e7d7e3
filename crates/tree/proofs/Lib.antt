pub mod Held
pub mod Meaning
pub mod Inits
pub mod Visits
pub mod Releases
pub mod Ends
pub mod Strong
