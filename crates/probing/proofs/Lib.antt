-- The laws of the crate `probing`.
pub mod Adding
pub mod Canonical
pub mod Image
pub mod Linear
pub mod Orders
pub mod Rows
pub mod Unique
pub mod Walls
pub mod Way
