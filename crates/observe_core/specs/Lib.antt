pub mod Requested
pub mod Printed
pub mod Observing
pub mod Driving
pub mod Results
