-- What a state is on lent buffers.
pub mod Lengths
pub mod State
pub mod Run
