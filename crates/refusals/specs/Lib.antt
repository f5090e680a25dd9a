-- The numbers that calls answer, and which one of several refusals is given.
pub mod Answer
pub mod Refusal
