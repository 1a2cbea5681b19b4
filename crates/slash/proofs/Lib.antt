-- The laws that the functions' proofs cite, and what follows from the definitions.
pub mod AnswerLaws
pub mod BitLaws
pub mod FormatLaws
pub mod RoundingLaws
pub mod ReadingLaws
pub mod FieldLaws
pub mod RoundTrip
pub mod WritingLaws
pub mod Recompose
pub mod CanonicalLaws
pub mod WordLaws
