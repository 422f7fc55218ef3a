pub mod FaultText
pub mod Joined
pub mod RulesText
pub mod HasPatterns
pub mod Laws
