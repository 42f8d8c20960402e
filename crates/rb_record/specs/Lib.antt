-- `Record` says which fields a line has.
pub mod Record
