pub mod Prefixed
