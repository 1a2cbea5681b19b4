-- What the papers say of the scoring package's records: their numbers, one record, all of them.
pub mod Floats
pub mod Records
pub mod Imports
-- For the code and the proofs alone.
pub mod Steps
