-- The laws that the functions' proofs cite, and what follows from the definitions.
pub mod DivisorLaws
pub mod CountLaws
pub mod QuotientLaws
