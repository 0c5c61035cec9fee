mod Counts
mod Failing
mod Fronts
mod Puts
