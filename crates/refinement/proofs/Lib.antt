pub mod Laying
pub mod Building
pub mod Waiting
