pub mod Pointer
pub mod Byte
pub mod Width
