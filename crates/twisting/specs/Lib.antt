-- What the papers say of twisted storage, in their order.
pub mod Twisting
pub mod Each
-- For the code and the proofs alone.
pub mod Steps
