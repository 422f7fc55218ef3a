mod Keeps
mod Loaded
mod NineWords
mod Turns
