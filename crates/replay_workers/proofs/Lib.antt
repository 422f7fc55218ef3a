pub mod Tables
pub mod Steps
pub mod Dealt
mod Tries
mod Watched
