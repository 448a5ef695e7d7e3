pub mod Matches
pub mod Signed
pub mod WellFormed
