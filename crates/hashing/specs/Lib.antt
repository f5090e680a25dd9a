-- What the contracts of `ranges`, `slots` and `tabulation` cite, and the laws that the crates above use.
pub mod Hash
pub mod Answer
pub mod Sum
pub mod Slots
pub mod Stations
