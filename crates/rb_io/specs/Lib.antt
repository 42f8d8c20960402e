-- Read Outside first: what the clauses of the traits Inputs and Sink say. Then Calls, of putting
-- a piece whole. Cut is how a text is cut into lines.
-- Of the forms in memory: MemFile, what names hold; MemFiles, what the inputs say of their calls;
-- MemBytes, the same of the sinks; Pieces, how many bytes a call moves; Tally, which calls fail.
-- Of the adapters over the machine: Host, which source is open, and what is left of it.
-- Each is cited by contracts. Scaffolding of proofs are two: Puts of Calls, for loops that put piece by
-- piece, and made_up of Outside, for a law of the inputs in memory.
pub mod Outside
pub mod Calls
pub mod Cut
pub mod MemFile
pub mod MemFiles
pub mod MemBytes
pub mod Pieces
pub mod Tally
pub mod Host
