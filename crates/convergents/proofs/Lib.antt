-- Why rounding gives the best pair.
pub mod Neighbours
pub mod ConvergentLaws
pub mod Optimal
pub mod BestLaws
pub mod RoundingLaws
