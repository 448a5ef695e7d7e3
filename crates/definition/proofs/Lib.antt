-- The laws of the definition.
-- general: Booleans, lists
pub mod Booleans
pub mod Parts
pub mod Writes
pub mod Any
pub mod Lists
pub mod Counts
pub mod Alls
pub mod Places
-- permissions, trees and visits
pub mod Permissions
pub mod Visits
pub mod Trees
pub mod Order
pub mod Turns
pub mod Rows
pub mod Recursion
pub mod Ranges
pub mod Leaves
pub mod Retags
pub mod Releases
-- requests and runs
pub mod Accesses
pub mod Leaks
pub mod Exchanges
mod Example
mod Stars
mod Cases
pub mod ValidTrees
pub mod ValidMemory
pub mod ValidFrames
pub mod NarrowRuns
pub mod ValidRuns
pub mod Changes
pub mod Protectors
pub mod Entries
pub mod EndCalls
pub mod Held
pub mod SharedArguments
mod ExampleCall
