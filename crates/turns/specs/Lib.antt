pub mod Stand
pub mod Bench
pub mod DeskLaws
pub mod EventLaws
pub mod Outcomes
