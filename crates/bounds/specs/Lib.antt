-- Which record is looked up, and what the tests ask of it.
pub mod Bounds
