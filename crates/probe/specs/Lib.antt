-- What the proofs of `probe` need: the loops, a turn at a time.
pub mod Turns
