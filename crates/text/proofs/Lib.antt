-- The laws that the functions' proofs cite, and what follows from the definitions.
pub mod NumberLaws
pub mod ScanLaws
pub mod PartLaws
pub mod ColumnLaws
pub mod LineLaws
