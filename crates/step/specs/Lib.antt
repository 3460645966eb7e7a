pub mod Step
pub mod StepLaws
pub mod SoundLaws
pub mod WatchLaws
