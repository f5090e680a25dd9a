-- What the contracts of `candidates` cite: the keys that count, in the slots and in the places of the stash, and how
-- many numbers stand in words.
pub mod Candidates
