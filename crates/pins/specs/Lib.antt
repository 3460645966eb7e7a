pub mod Levels
pub mod Edges
pub mod Sound
pub mod Watch
pub mod SoundLaws
pub mod StatusLaws
