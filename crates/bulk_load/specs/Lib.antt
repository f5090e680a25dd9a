-- What the contracts of `bulk_load` cite, and what its proofs need: the set that an input is, brought to scratch and
-- committed (Loading).
pub mod Loading
