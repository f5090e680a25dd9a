-- The laws of the crate `book`.
pub mod Bytes
