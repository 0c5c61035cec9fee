pub mod ExplainedLog
