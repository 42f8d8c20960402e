-- How many bytes a call in memory moves.
use Rattle.std.specs.Prelude.{ℕ, min}

-- as many as were asked for, but no more than a call's most, and no more than there are
abbrev pub moved : ℕ → ℕ → ℕ → ℕ
moved asked most there = min (min asked most) there
