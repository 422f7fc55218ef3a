pub mod ZipLaws
pub mod ChainLaws
pub mod RestLaws
pub mod RulesetLaws
