-- What is proved of the scoring package's records: an example, the numbers that bits say, then what the code needs.
pub mod Example
pub mod ValueLaws
pub mod FloatLaws
pub mod RecordLaws
pub mod ImportLaws
