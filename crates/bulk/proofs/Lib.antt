-- The laws of the crate `bulk`.
pub mod Input
pub mod Laws
pub mod Rows
