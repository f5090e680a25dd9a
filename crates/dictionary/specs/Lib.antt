-- What the steps of insert, remove and check mean (Core). What a whole call promises is in the crate `outcome`.
pub mod Core
