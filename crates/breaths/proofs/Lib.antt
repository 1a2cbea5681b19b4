-- The laws that the functions' proofs cite, and what follows from the definitions.
pub mod ProportionLaws
pub mod RatioLaws
pub mod RateLaws
pub mod SumLaws
