-- What the contracts of `partition` cite, and the laws that the crates above use.
pub mod Words
pub mod Tally
pub mod Chain
pub mod Partition
