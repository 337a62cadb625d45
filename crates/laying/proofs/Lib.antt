pub mod Laying
pub mod Joining
