pub mod Keep
pub mod Identities
pub mod Links
pub mod Refusals
pub mod Models
