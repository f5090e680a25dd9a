-- The laws of the crate `hashing`.
pub mod Answer
pub mod Hash
pub mod Issues
pub mod Slots
pub mod Stations
pub mod Sum
