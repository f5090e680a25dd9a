-- What the contracts of `image` cite: an image in its columns (Image), the same told by ranks (Ranks), and
-- its columns record by record (Rows).
pub mod Image
pub mod Ranks
pub mod Rows
