-- What `inspect` prints: the columns of a word, the text of a word, what a line says, and the text of a line.
pub mod Columns
pub mod Words
pub mod Says
pub mod Lines
-- For the code and the proofs alone.
pub mod Steps
