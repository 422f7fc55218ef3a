pub mod LastTrace
pub mod Missing
pub mod ReadCalls
pub mod RangeLaws
pub mod WordLaws
pub mod WordTables
