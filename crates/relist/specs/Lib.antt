-- What `relist` prints, and what loading a night's listing gives.
pub mod Again
pub mod Archive
