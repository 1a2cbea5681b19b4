-- What the papers say of the greatest common divisor and the partial quotients of a word.
pub mod Divisor
pub mod Quotients
