pub mod Buffers
pub mod Allocate
pub mod Access
pub mod Deallocate
