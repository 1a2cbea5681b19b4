-- The laws that the functions' proofs cite, and what follows from the definitions.
pub mod FloorLaws
pub mod OperationLaws
pub mod SignLaws
pub mod EachLaws
