-- The laws that the functions' proofs cite, and what follows from the definitions.
pub mod AgainLaws
pub mod ArchiveLaws
