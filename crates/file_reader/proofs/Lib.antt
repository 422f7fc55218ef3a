mod Prefixes
mod Orders
