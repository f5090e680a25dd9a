-- What the proofs of `stolen_table` need: what its tests come to, in the terms of the definitions that it promises.
pub mod Round
pub mod Decided
