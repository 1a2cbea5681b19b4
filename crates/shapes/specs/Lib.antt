-- What the papers say of the shape of a printed line: its fields, its word, the line.
pub mod Fields
pub mod Words
pub mod Shapes
