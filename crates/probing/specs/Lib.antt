-- One table in which the smaller key keeps a contested slot (document 02, "Nine"; 'ordered hashing', source document
-- 003, section 3), as mathematics: what a reader must believe (Rule), what code does (Moves), and theorems. A table's
-- hash and its number of slots are any; nothing here knows a tabulation.
pub mod Rule
pub mod Moves
pub mod Way
pub mod Unique
pub mod Adding
pub mod Image
pub mod Orders
pub mod Walls
pub mod Linear
pub mod Rows
