-- The laws that the functions' proofs cite.
pub mod EachLaws
pub mod CheckLaws
