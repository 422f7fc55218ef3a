pub mod Bits
mod Table
