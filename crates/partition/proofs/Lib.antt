-- The laws of the crate `partition`.
pub mod Chain
pub mod Partition
pub mod Tally
pub mod United
pub mod Words
