-- The laws of the crate `walking`.
pub mod CutLaws
pub mod WalkLaws
