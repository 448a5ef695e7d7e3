pub mod Trees
pub mod Lent
pub mod Afterwards
