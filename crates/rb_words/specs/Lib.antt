-- Read `Words` first: what a list of words asks for, and which fault another has. It stands on `Options`, the options and their defaults, as the
-- definitions of `clap` take them. `Laws` says what short lists of words ask for.
pub mod Options
pub mod Words
pub mod Laws
