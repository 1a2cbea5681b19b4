-- What the papers say of conversion.
pub mod Conversion
pub mod Each
