-- Salvage: who survives and what the call answers and leaves (Salvage); the spots of words (Spots); the survivors are a
-- set and fit (Surviving), those of an image are its set (Untampered), the laws of the call (Laws), where the first that
-- counts is found (Looked), what damage can do (Damage), and rows of the board (Rows).
pub mod Salvage
pub mod Spots
pub mod Surviving
pub mod Laws
pub mod Looked
pub mod Damage
pub mod Rows
