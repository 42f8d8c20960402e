mod Going
mod Cells
mod Alone
mod Lines
mod Sizes
mod Reducing
mod AllRows
mod Entries
mod Elimination
mod Numbers
mod Forcing
mod Meeting
pub mod Enclosing
pub mod Answered
pub mod Borders
pub mod OneForce
pub mod OneCoupling
pub mod Rigid
