pub mod ExitRules
pub mod Fronts
pub mod Phases
pub mod RobustExit
pub mod Waking
