pub mod LayTurns
pub mod MarkTurns
pub mod TextTurns
pub mod SpellTurns
