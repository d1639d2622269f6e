-- Tables of names, and the creates that gave them.
pub mod Tables
pub mod Latest
