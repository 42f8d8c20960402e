-- How far a decimal is shifted to make units of the grid.
use Rattle.std.specs.Prelude.{ℕ, ◌+◌, Bool, if◌then◌else◌}

-- in units of the grid a decimal is its digits times 10 to this power,
abbrev pub raised_of : Bool → ℕ → ℕ
raised_of down exponent = if down then 12 else 12 + exponent

-- over 10 to this one
abbrev pub lowered_of : ℕ → Bool → ℕ → ℕ
lowered_of part down exponent = if down then part + exponent else part
