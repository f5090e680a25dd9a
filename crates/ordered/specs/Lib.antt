-- What the contracts of `ordered` and `sorting` cite (Keys), the laws that the crates above use (Sorting, Distinct, Place), and the loops as
-- mathematics.
pub mod Keys
pub mod Sorting
pub mod Distinct
pub mod Shift
