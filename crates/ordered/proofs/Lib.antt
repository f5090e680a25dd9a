-- The laws of the crate `ordered`.
pub mod Distinct
pub mod Place
pub mod Shift
pub mod Sorting
