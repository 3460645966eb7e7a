pub mod Division
pub mod Table
pub mod Check
pub mod Promises
pub mod Outcomes
pub mod Examples
