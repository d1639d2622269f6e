-- The law that joins printing and reading, from words to lines to the whole.
pub mod Binds
pub mod Digits
pub mod Spelling
pub mod Made
pub mod Hex
pub mod WordForms
pub mod WordLists
pub mod Calls
pub mod Heads
pub mod Sound
pub mod Plain
pub mod Complete
pub mod FirstBad
pub mod Law
pub mod NotForm
pub mod Forms
