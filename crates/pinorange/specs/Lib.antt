-- What the exported calls write to their out-parameters.
pub mod Out
pub mod House
