pub mod RecoveryLaws
pub mod Extended
