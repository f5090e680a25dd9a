-- The bytes of a tabulation, and that nothing is lost on the way there and back. Assumes nothing.
pub mod Bytes
