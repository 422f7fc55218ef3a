pub mod Rulesets
pub mod Killers
