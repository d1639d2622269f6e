pub mod Commented
pub mod Texts
pub mod Printed
pub mod Grammar
pub mod Merging
pub mod Places
