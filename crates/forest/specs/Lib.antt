-- The mathematics for any two end functions, and what the contracts of `forest` cite: the slots of a rank (Edges), and the graph in one stretch of words (Graph).
pub mod Oriented
pub mod Reroot
pub mod Way
pub mod Link
pub mod Finish
pub mod Edges
pub mod Graph
