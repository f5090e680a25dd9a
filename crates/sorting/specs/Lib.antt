-- Heap sort as mathematics: what its functions promise each other (Swap, Heap). What sorting is, and that any ascending list of the same elements is
-- `sorted`, is said in ordered (Keys, Sorting): an algorithm that takes the place of this one needs that, and can do without these files.
pub mod Swap
pub mod Heap
