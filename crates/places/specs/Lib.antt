-- What the proofs of `places` need: that a key that is no word of the places is in none, and the search from place to place.
pub mod Search
