-- What the papers say of a night's listing, whole and in pieces.
pub mod Nights
pub mod Listing
pub mod Pieces
-- The papers' example.
pub mod Example
-- For the code and the proofs alone.
pub mod Steps
