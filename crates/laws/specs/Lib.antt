pub mod Bits
pub mod TestLaws
pub mod MaskLaws
pub mod ArmLaws
