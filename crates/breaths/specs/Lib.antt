-- What the papers say of a breath and of a night, in their order.
pub mod Rates
pub mod Ratios
pub mod Breaths
pub mod Sums
-- For the code and the proofs alone.
pub mod Steps
