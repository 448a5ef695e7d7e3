-- Laws: of calls, of retags and of the requests to the memory alone.
pub mod EndCalls
pub mod Retagging
pub mod Memories
pub mod Accesses
pub mod Requests
