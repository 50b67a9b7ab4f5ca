pub mod Input
pub mod Lent
pub mod Glue
