pub mod Keep
pub mod Enclosure
pub mod Identities
pub mod Entries
pub mod Outer
pub mod Seen
pub mod Body
