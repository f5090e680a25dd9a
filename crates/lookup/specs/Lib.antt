-- What the proofs of `lookup` cite beside the laws of `layout`: what is looked at for a key, and what is found.
pub mod Found
