pub mod Notes
pub mod Rise
pub mod Fall
pub mod NoteLaws
pub mod SoundLaws
