-- What the papers say of vectors, whatever the operation.
pub mod Places
pub mod Each
pub mod Checks
-- For the code and the proofs alone.
pub mod Steps
