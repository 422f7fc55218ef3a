pub mod RulesLaws
pub mod RulesRuns
pub mod RulesStops
pub mod RulesOrder
