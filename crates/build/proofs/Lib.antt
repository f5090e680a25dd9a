-- The laws of the crate `build`.
pub mod Access
pub mod Built
pub mod EachSlot
pub mod Finish
pub mod FinishCode
pub mod Labels
pub mod Link
pub mod LinkCode
pub mod Next
pub mod NextCode
pub mod Notes
pub mod NotesCode
pub mod Scratch
pub mod Whole
