-- What the papers say of the text of a recording and of a listing: numbers, text taken apart, columns, lines, and text in a lent list.
pub mod Numbers
pub mod Scan
pub mod Columns
pub mod Lines
pub mod Stores
-- For the code and the proofs alone.
pub mod Steps
