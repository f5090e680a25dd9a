-- The laws of the crate `counters`.
pub mod Counting
mod Saturated
