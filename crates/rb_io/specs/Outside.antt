-- What inputs and sinks tell of their calls: counts, and what was given of the open name.
use Rattle.std.specs.Prelude.{◌≡◌, ℕ, List, ◌++◌, ◌+◌, ◌-◌, ◌^◌, ◌≤◌, length, take, drop, min, codes, OnOk, OnErr, Result}
use Rattle.std.proofs.Common.{sym, ap}
use Rattle.std.proofs.lemmas.List.{take-append-drop, length-take-le}

-- a count, which stays at its last value, 2^64 - 1
abbrev pub counted : ℕ → ℕ → ℕ
counted before more = min (before + more) (2 ^ 64 - 1)

-- a count of faults rose, or stands at its last value
abbrev pub Rose : ℕ → ℕ → Type 0
Rose before now = counted before 1 ≤ now

-- a count of faults never falls, rose where the call failed, and stayed where it did not
pub record HasCause {T E : Type 0} (before now : ℕ) (result : Result T E) : Type 0 where
  pub later : before ≤ now
  pub failed : OnErr result (Rose before now)
  pub kept : OnOk result (now ≡ before)

-- the word of a call that failed
abbrev pub failed_word : List ℕ
failed_word = codes "Failed"

-- what was given of the open name and what is left of it make up the whole
pub record MakesUp (whole : List ℕ) (given : ℕ) (left : List ℕ) : Type 0 where
  pub done : List ℕ
  pub splits : whole ≡ done ++ left
  pub count : given ≡ counted 0 (length done)

-- so it is where that many bytes were given from the front
pub made_up : (n : ℕ) (whole : List ℕ) → n ≤ length whole → MakesUp whole (counted 0 n) (drop n whole)
made_up n whole within = record {
  done = take n whole;
  splits = sym (take-append-drop n whole);
  count = ap (counted 0) (sym (length-take-le n whole within));
}
