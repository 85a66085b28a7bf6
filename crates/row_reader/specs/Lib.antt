pub mod Marks
pub mod Column
