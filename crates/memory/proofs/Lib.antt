pub mod OneTree
pub mod Allocated
pub mod LoadStore
pub mod Deallocation
pub mod Afterwards
