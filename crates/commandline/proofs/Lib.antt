mod Numbers
mod NoJobs
mod NoSources
mod Written
mod Worked
pub mod Workers
mod Growing
