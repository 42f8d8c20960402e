-- Read `Grammar` first: what a file of tags is as text, and the tags that it has. `Values` says what a value is as text, `Refusals` where a
-- file has which fault, with `BadMarks` for marks that do not fit, and `Kept` what each list of tags keeps. `Elements`, `Words` and `Names`
-- are what the calls on tags answer: child elements and attributes, the words of a text, the numbers of names. `InOrder` is for readers of tags:
-- which fault is told where several things may be wrong.
-- `Tags` is how a file is read step by step, with `Seen` for its marks, `Marks` inside a mark, `References` inside a value and `Bytes` inside
-- a run of bytes. It is scaffolding, since `Laws` says that it is the grammar. `Faults` has the faults of kinds at places, and
-- `Views` what contracts see of the reader.
pub mod BadMarks
pub mod Bytes
pub mod Elements
pub mod Faults
pub mod Grammar
pub mod InOrder
pub mod Kept
pub mod Laws
pub mod Marks
pub mod Names
pub mod References
pub mod Refusals
pub mod Seen
pub mod Tags
pub mod Values
pub mod Views
pub mod Words
