-- The laws that the functions' proofs cite, and what follows from the definitions.
pub mod ListableLaws
pub mod LineLaws
pub mod LoadLaws
pub mod TextLaws
pub mod EndLaws
pub mod FillLaws
pub mod PrintLaws
