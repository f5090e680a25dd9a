-- What the proofs of `bulk_input` share.
pub mod Laws
