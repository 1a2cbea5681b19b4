-- The laws that the functions' proofs cite, and what follows from the definitions.
pub mod LineLaws
pub mod StepLaws
pub mod OpeningLaws
pub mod ReadingLaws
pub mod TickLaws
