-- The opening of a sale, from its steps to its answer (Priced).
pub mod Priced
