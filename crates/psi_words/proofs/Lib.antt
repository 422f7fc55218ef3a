mod Adding
mod Agreement
mod Exact
mod Finding
mod InRange
mod Parts
mod Reading
mod Rows
mod Rules
mod Turning
mod Walking
pub mod ReadingSteps
