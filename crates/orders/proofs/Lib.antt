-- The laws of the crate `orders`.
pub mod AnyList
pub mod Orders
pub mod Overfull
