-- The laws of the crate `grammar`.
pub mod CommandLaws
pub mod Decimal
pub mod Listing
pub mod NumberLaws
pub mod Parted
pub mod Row
pub mod SizesLaws
