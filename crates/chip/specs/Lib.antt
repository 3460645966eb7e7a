pub mod Event
pub mod List
pub mod Loop
pub mod Answers
pub mod Promises
pub mod Run
pub mod Outcomes
pub mod Examples
