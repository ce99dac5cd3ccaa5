-- The laws of what is written.
pub mod Pens
pub mod Commas
pub mod Unique
