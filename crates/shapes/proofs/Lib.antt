-- The laws that the functions' proofs cite, and what follows from the definitions.
pub mod FieldLaws
pub mod WordLaws
pub mod ShapeLaws
