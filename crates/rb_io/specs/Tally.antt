-- The calls on an object in memory that is told which of them fail.
use Rattle.std.specs.Prelude.{◌≡◌, ◌≤◌, ◌↔◌, List, ℕ, IsErr, OnErr, OnOk, Contains, Result}
use Rattle.rb_io.specs.declared.tally.Tally.{Tally}
use Rattle.rb_io.specs.Outside.{counted}

-- before the first call: the calls with these numbers are to fail, where the first has the number 1
pub record IsUnused (tally : Tally) (numbers : List ℕ) : Type 0 where
  pub fail : tally.fail.items ≡ numbers
  pub calls : tally.calls ≡ 0
  pub faults : tally.faults ≡ 0

-- the call was counted, and failed exactly where its number is listed
pub record IsCounted {T E : Type 0} (old new : Tally) (result : Result T E) : Type 0 where
  pub fail : new.fail.items ≡ old.fail.items
  pub calls : new.calls ≡ counted old.calls 1
  pub fails : IsErr result ↔ Contains old.fail.items new.calls
  pub later : old.faults ≤ new.faults
  pub raised : OnErr result (new.faults ≡ counted old.faults 1)
  pub kept : OnOk result (new.faults ≡ old.faults)
