-- The list of stolen keys (document 02, "Nine"): what its calls answer and leave (Answers), when words are the image of
-- a set (Canonical), what the calls do there (Demands), sequences of calls and the plain register beside them (Calls),
-- the theorem that they agree (Sequences), what follows with one book and station (OneBook), and worked rows (Rows).
pub mod Answers
pub mod Canonical
pub mod Calls
pub mod Sequences
pub mod OneBook
pub mod Rows
