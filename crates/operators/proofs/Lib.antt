pub mod Tables
pub mod First
