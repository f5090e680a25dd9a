-- From ranks and their edges to the canonical image: the passes on lists (Link, Labels, Notes, Finish, Next), that they give what `cuckoo` defines (Built), how
-- they lie in scratch (Scratch), and what callers read (Build).
pub mod EachSlot
pub mod Link
pub mod Labels
pub mod Notes
pub mod Finish
pub mod Next
pub mod Built
pub mod Scratch
pub mod Access
pub mod LinkCode
pub mod NotesCode
pub mod FinishCode
pub mod NextCode
pub mod Build
pub mod Whole
