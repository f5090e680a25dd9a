-- What the contract of `house` cites, and what it means.
pub mod Rule
