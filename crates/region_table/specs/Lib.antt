pub mod Numbers
pub mod Packing
pub mod Tables
pub mod Spelling
pub mod Layouts
pub mod Published
pub mod Opening
