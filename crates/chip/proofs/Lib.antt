pub mod EventLaws
pub mod RefusalLaws
pub mod SoundLaws
pub mod RunLaws
pub mod ListLaws
pub mod ListRuns
pub mod WatchLaws
