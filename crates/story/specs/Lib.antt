pub mod Scene
pub mod Story
pub mod SameRun
pub mod Outcomes
pub mod Examples
