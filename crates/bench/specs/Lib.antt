pub mod Head
pub mod Run
pub mod Report
pub mod Outcomes
pub mod Examples
pub mod HeadExamples
