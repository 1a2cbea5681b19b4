-- What the papers say of formats, words and rounding, in their order.
pub mod Answers
pub mod Bits
pub mod Formats
pub mod Numbers
pub mod Reading
pub mod Rounding
pub mod Writing
pub mod Canonical
pub mod Best
-- For the code and the proofs alone.
pub mod Steps
