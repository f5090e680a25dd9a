-- What the contracts of `edges` cite, and whoever reads an edge.
pub mod Edge
