-- The laws that the functions' proofs cite, and what follows from the definitions.
pub mod OperandLaws
pub mod SizeLaws
pub mod OperationLaws
pub mod RuleLaws
pub mod ComparisonLaws
pub mod EachLaws
pub mod Edges
