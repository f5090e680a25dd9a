-- The laws of the crate `feeding`.
pub mod Feeding
pub mod FeedingAfter
pub mod Rank
pub mod RankBound
pub mod RankAfter
