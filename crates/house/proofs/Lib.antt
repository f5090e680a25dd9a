-- The laws of the crate `house`.
pub mod Rule
