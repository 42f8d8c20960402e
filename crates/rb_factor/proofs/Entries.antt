-- What a packed table and a list of columns tell once a value is put there.
use Rattle.std.proofs.Common.{◌≡◌, ◌≢◌, ℕ, ◌+◌, ◌<◌, ◌≤◌, List, length, slice_set, refl, arith, get_or-set_other, get_or-set_same, length-set}
use Rattle.rb_num.specs.Interval.{Interval}
use Rattle.rb_work.specs.Path.{Ascends, IsOn, packed_length, packed_place}
use Rattle.rb_work.proofs.PathLaws.{place_within, same_place}
use Rattle.rb_factor.specs.Sweeps.{entry_at, number_at}

-- the table has a place for each pair on a path, the list one for each column
abbrev pub Fits : List ℕ → List Interval → Type 0
Fits up table = length table ≡ packed_length up

abbrev pub Holds : List ℕ → List Interval → Type 0
Holds up numbers = length numbers ≡ length up + 1

module _ (up : List ℕ) (ascends : Ascends up) where
  pub put_same : (table : List Interval) (c d : ℕ) (x : Interval) → c ≤ length up → IsOn up c d → Fits up table
      → entry_at up (slice_set table (packed_place up c d) x) c d ≡ x
  put_same table c d x l i f = let n : packed_place up c d < packed_length up = place_within up ascends c d l i in let m : packed_place up c d < length table = omega arith in rw get_or-set_same refl

  pub put_other : (table : List Interval) (c d : ℕ) (x : Interval) (e f : ℕ) → IsOn up c d → IsOn up e f → (c ≡ e → d ≡ f → ⊥)
      → entry_at up (slice_set table (packed_place up c d) x) e f ≡ entry_at up table e f
  put_other table c d x e f i j differ =
      let ne : packed_place up e f ≢ packed_place up c d = λ q. let s = same_place up ascends e f c d j i q in differ (omega (arith, s.0)) (omega (arith, s.1)) in
      rw get_or-set_other refl

  pub put_fits : (table : List Interval) (p : ℕ) (x : Interval) → Fits up table → Fits up (slice_set table p x)
  put_fits table p x f = rw length-set f

  pub number_same : (numbers : List Interval) (c : ℕ) (x : Interval) → c ≤ length up → Holds up numbers → number_at (slice_set numbers c x) c ≡ x
  number_same numbers c x l f = let m : c < length numbers = omega arith in rw get_or-set_same refl

  pub number_other : (numbers : List Interval) (c : ℕ) (x : Interval) (d : ℕ) → d ≢ c → number_at (slice_set numbers c x) d ≡ number_at numbers d
  number_other numbers c x d ne = rw get_or-set_other refl

  pub number_holds : (numbers : List Interval) (c : ℕ) (x : Interval) → Holds up numbers → Holds up (slice_set numbers c x)
  number_holds numbers c x f = rw length-set f
