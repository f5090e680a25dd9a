-- The trail call, from its steps to its outcome (Traced).
pub mod Traced
