-- The laws of the code.
pub mod Writing
pub mod Answers
pub mod Transcripts
