pub mod Bits
pub mod Clocks
pub mod Packed
pub mod Walk
