-- What the contracts of `fields`, `forms`, `lines` and `rows` cite, and the laws that their proofs use. To be believed:
-- `decimal`, `number_of`, `lines_of`, `fields`, `pair_of`, `command_of`, `sizes_of` and the rows, each at the top of its
-- file. Listing shows them on document 01's session.
pub mod Decimal
pub mod Number
pub mod Parted
pub mod Command
pub mod Sizes
pub mod Row
