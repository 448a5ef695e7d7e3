-- What the entries promise.
pub mod Entry
pub mod Fields
pub mod Start
