-- The counters: how a call moves them (Counters, the definitions), and laws about that (Counting).
pub mod Counters
