pub mod Scenes
pub mod Stories
