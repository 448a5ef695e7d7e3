-- The meaning of a run of memory requests under Tree Borrows, in reading order.
pub mod Notation
pub mod Refusal
pub mod Width
pub mod Permission
pub mod Tree
pub mod Layout
pub mod Memory
pub mod Frame
pub mod Retag
pub mod Request
pub mod Run
pub mod Valid
pub mod Exchange
pub mod Output
pub mod EndCalls
pub mod SharedArguments
