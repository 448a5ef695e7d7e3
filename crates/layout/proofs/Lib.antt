pub mod Lists
pub mod Words
pub mod Cells
pub mod Fill
pub mod Bounded
pub mod Answers
