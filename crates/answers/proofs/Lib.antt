pub mod RunsExplained
mod Beside
mod Explored
mod Failing
mod Hinted
mod LegalLogs
mod LogSteps
mod Ordered
mod Refusing
mod Replays
mod SearchesImages
mod SourceLogs
pub mod Told
mod Written
