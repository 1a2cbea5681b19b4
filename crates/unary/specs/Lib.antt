-- What the papers say of the unary operations, in their order.
pub mod Signs
pub mod Floor
pub mod Operations
pub mod Each
-- For the code and the proofs alone.
pub mod Steps
