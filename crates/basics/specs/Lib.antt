-- What every crate may use: decisions (Tests), lists of numbers as sets (Sets), more on lists (Lists), and parts of
-- words (Parts). Nothing here knows of keys or slots.
pub mod Tests
pub mod Sets
pub mod Lists
pub mod Parts
