-- What the papers say of a night's recording, in their order: a line, the first line, and line by line.
pub mod Lines
pub mod Openings
pub mod Reading
-- For the code and the proofs alone.
pub mod Steps
