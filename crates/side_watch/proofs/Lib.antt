pub mod SideValues
pub mod Counting
pub mod Due
pub mod Watching
pub mod Walks
