-- What the papers say of a listing that is read back: which words it has, what is printed of them, how its text is loaded.
pub mod Listable
pub mod Prints
pub mod Lines
pub mod Loads
pub mod Fills
-- For the code and the proofs alone.
pub mod Steps
