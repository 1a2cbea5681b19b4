-- What rounding a ratio means.
pub mod Pairs
pub mod Convergents
pub mod Rounding
pub mod Best
