pub mod Asked
pub mod Cursors
pub mod Redraws
pub mod Rows
