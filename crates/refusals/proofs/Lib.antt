-- The laws of the crate `refusals`.
pub mod Answer
pub mod Refusals
