mod Fitting
mod Sums
