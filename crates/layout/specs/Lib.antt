-- How a dictionary lies in words. Layout and Answers have the definitions; then laws: what the shape means (Shape), the image by position (Image), the
-- keys that stand in words (Standing), one issue of each first part (Issues), which sets fit (Fitting), lookup and view on an image (Look), which words are
-- an image (Canonical), what every call on a whole dictionary tries first (Ready), fresh words (Fresh), what was there before tiers and stations (Bare) and before issues (Reissued), and the worked examples K1 to K12 (Ends, Board, Smallest).
pub mod Entries
pub mod Layout
pub mod Answers
pub mod Shape
pub mod Image
pub mod Standing
pub mod Issues
pub mod Canonical
pub mod Ready
pub mod Ends
pub mod Bare
pub mod Reissued
pub mod Board
pub mod Smallest
