-- The laws of the crate `basics`.
pub mod Lists
pub mod Parts
pub mod Sets
pub mod Tests
