pub mod Packing
pub mod Pulses
pub mod Storing
