-- The laws of the crate `forest`.
pub mod Edges
pub mod Finish
pub mod Graph
pub mod Link
pub mod Oriented
pub mod RerootLaws
pub mod Seats
pub mod Way
