-- The laws of the crate `outcome`.
pub mod Board
pub mod Demands
pub mod Held
pub mod HeldNew
pub mod HeldAfter
pub mod Laws
pub mod SaleLaws
pub mod TrailLaws
