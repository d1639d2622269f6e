-- What is kept of a script, the line of a call read again, and the first of a client's calls.
pub mod Kept
pub mod Found
pub mod Backs
pub mod Fronts
