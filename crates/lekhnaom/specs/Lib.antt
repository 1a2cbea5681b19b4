-- What a call from C answers.
pub mod Status
-- What is lent as a struct: a word's value; a night listed in pieces.
pub mod Values
pub mod Pieces
