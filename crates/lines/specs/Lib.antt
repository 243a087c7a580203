pub mod Lines
pub mod Alike
pub mod Numerals
pub mod Laying
