-- What the contracts of `salvage` cite, and what its proofs need: an issue looked for (Issue), the survivors chosen in
-- scratch (Chosen), and from there to the outcome (Salvaging).
pub mod Issue
pub mod Chosen
pub mod Salvaging
