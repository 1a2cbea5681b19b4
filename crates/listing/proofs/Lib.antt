-- The laws that the functions' proofs cite, and what follows from the definitions.
pub mod NightLaws
pub mod ListingLaws
pub mod PieceLaws
pub mod BestLaws
pub mod StepLaws
pub mod WholeLaws
pub mod Example
