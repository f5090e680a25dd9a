-- The laws of the crate `lines`.
pub mod Buffer
pub mod Stream
