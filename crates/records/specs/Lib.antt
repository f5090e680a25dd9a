-- What the contracts of `records` cite: one record, by rank (Record); and, for whoever goes through many, a column
-- of records (Columns).
pub mod Record
pub mod Columns
