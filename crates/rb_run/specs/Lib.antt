-- Read `Meaning` first: what the answer of a row means. `Jobs` says what can be asked, `Slots` is a row with its answer, `Answers` says what that is, and `Line` is the line that
-- tells it.
pub mod Meaning
pub mod Jobs
pub mod Slots
pub mod Line
pub mod Answers
