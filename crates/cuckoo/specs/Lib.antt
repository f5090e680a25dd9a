-- The canonical image of a set of keys, as mathematics alone: no words, no tabulation. Graph has the definitions, Rows
-- worked examples, and the rest is theorems, with what they speak of: joined slots (Joined), the forest (Forest) and
-- what settling leaves (Settling, Kruskal), also by head office's rule (Rising); walks and cycles as a reader means
-- them (Walks, Cycles); where keys sit (Seating, Tree, Components, Places), which is what document 01 says and nothing
-- else (Bullets, Unique, Filled, Next); components do not touch each other (Locality); no rule has a smaller stash
-- (Placement); only the ends of the set's own keys count (Agree), and of the keys only their order and their ends
-- (Renaming); and the trail of a key (Trail), with the walk by which code finds it (Round). docs/CLAIMS.md says which
-- theorem stands for which sentence.
pub mod Graph
pub mod Rows
pub mod Joined
pub mod Walks
pub mod Forest
pub mod Settling
pub mod Cycles
pub mod Seating
pub mod Tree
pub mod Rising
pub mod Places
pub mod Bullets
pub mod Filled
pub mod Next
pub mod Locality
pub mod Placement
pub mod Renaming
pub mod Agree
pub mod Trail
pub mod Round
