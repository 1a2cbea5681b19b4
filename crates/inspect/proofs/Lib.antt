-- The laws that the functions' proofs cite, and what follows from the definitions.
pub mod StoreLaws
pub mod ColumnLaws
pub mod QuotientLaws
pub mod WordLaws
pub mod SaidLaws
pub mod LineLaws
pub mod AgainLaws
pub mod Example
