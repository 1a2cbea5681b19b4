-- The laws that the functions' proofs cite, and what follows from the definitions.
pub mod TurningLaws
pub mod HalvesLaws
pub mod TwistingLaws
pub mod WordLaws
pub mod EachLaws
-- For the code alone.
pub mod StepLaws
