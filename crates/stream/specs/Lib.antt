-- How a run ends that reads a recording and writes its listing.
pub mod Runs
