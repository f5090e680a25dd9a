-- What the contracts of `scratch_set` cite: the edges of keys and a set in scratch (Edges), the keys in words collected there (Collected), and a key put into the
-- set and taken out (Members).
pub mod Edges
pub mod Collected
pub mod Members
