pub mod Clocks
pub mod Plans
pub mod Room
pub mod Sides
pub mod SideLaws
