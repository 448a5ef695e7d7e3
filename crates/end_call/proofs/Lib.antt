pub mod Lent
pub mod Releases
pub mod Spans
pub mod EndCall
