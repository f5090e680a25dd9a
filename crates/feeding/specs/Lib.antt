-- Feeding a list of keys one by one, the refused ones skipped (Feed): how many are listed at the end does not depend on
-- the order, and no choice lists more (Feeding); for a key enlarges the stash exactly if both its slots lie in
-- components with a cycle, and so in every larger set (Rank).
pub mod Rank
pub mod Feed
