-- The laws of the crate `survivors`.
pub mod Damage
pub mod Laws
pub mod LawsAfter
pub mod Looked
pub mod Rows
pub mod Spots
pub mod Surviving
pub mod Untampered
