pub mod Counting
pub mod Taking
pub mod UntilRounds
pub mod Same
pub mod Ticking
