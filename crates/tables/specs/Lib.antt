-- How five lent buffers hold a memory, and how it is read back.
pub mod Encoding
pub mod Decoding
pub mod Held
