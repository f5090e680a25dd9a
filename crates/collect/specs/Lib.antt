-- What the contracts of `collect` cite: the keys picked out of words.
pub mod Collect
