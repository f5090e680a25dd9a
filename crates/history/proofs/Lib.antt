-- The laws of the crate `history`.
pub mod Agrees
pub mod Changes
pub mod Corollaries
pub mod ExampleCalls
pub mod Example
pub mod History
pub mod NoTrace
pub mod NoTraceAfter
pub mod Others
pub mod ReadsLaws
pub mod Sales
pub mod Starts
