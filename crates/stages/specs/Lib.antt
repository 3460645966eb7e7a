pub mod Bits
pub mod Address
pub mod Close
pub mod Sound
pub mod SoundLaws
pub mod Wp
pub mod Last
