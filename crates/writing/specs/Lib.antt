-- What the contracts of `writing` and `rows` cite besides `grammar`: the record `Written`, which is to be believed, and the
-- laws of writing on.
pub mod Written
