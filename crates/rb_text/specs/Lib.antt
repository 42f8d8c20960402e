-- Read `Bracket` first: which bracket a text has, and which fault another. It stands on `Decimal`, what a decimal text is and says, and on
-- `Range`, the forms of a number text. `Three` is a list of three numbers. `Print` says which number a printed end tells, and how a fault is
-- named; `Buffer` is what ends are put to. `Size` counts the places that a decimal is shifted by: it is scaffolding.
pub mod Bracket
pub mod Buffer
pub mod Decimal
pub mod Print
pub mod Range
pub mod Size
pub mod Three
