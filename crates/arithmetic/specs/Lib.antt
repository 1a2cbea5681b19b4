-- What the papers say of the binary operations and comparison, in their order.
pub mod Operands
pub mod Operations
pub mod Sizes
pub mod Comparison
pub mod Each
-- The papers' cases.
pub mod Edges
-- For the code and the proofs alone.
pub mod Steps
