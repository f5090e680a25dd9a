-- Bulk load: what it answers and leaves (Bulk), what its input is (Input), the laws of the call (Laws), and the board
-- laid in one call (Rows).
pub mod Bulk
pub mod Input
pub mod Laws
pub mod Rows
