pub mod Power
pub mod Promises
pub mod CheckedLaws
pub mod PowerLaws
pub mod Outcomes
