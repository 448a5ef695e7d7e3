pub mod WellFormed
pub mod AtWidth
