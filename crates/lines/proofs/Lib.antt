pub mod Numerals
pub mod Laying
pub mod LineLaws
