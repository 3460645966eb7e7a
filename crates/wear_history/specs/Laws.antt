-- What the theorems on row cycles are proved with. Nobody has to believe these: they are checked.
pub mod Changes
pub mod Counters
pub mod Moments
pub mod Lent
