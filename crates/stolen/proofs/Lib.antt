-- The laws of the crate `stolen`.
pub mod Answers
pub mod Canonical
pub mod Demands
pub mod OneBook
pub mod Rows
pub mod Sequences
