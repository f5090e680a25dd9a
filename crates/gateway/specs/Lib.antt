-- What load and commit do, by way of the keys and edges in scratch: the columns of an image that the build leaves
-- (Columns), a set that stands in scratch and
-- is built (Building), words loaded as a set (Loading), what a set that was loaded has (LoadedSet), and a set committed
-- to words (Committing).
pub mod Columns
pub mod Building
pub mod Loading
pub mod LoadedSet
pub mod Committing
