-- Values of columns, taken one after the other.
use Rattle.std.proofs.Common.{◌≡◌, ◌<◌, ◌≤◌, ◌+◌, ◌-◌, ℕ, zero, suc, List, [], ◌∷◌, ◌++◌, length, map, take, set, refl, ◌∙◌, ap, sym, arith, append-nil, append_assoc}
use Rattle.std.proofs.lemmas.List.{map-append, take_all, length-set}
use Rattle.std.proofs.lemmas.Grind.{take-set_at}
use Rattle.rb_num.specs.Interval.{Interval}
use Rattle.rb_sweep.specs.Sweep.{upward, counting_up}

counting_more : (lo k : ℕ) → counting_up lo (suc k) ≡ counting_up lo k ++ (lo + k) ∷ []
counting_more lo zero = let e : lo + 0 ≡ lo = omega arith in rw e refl
counting_more lo (suc k) =
    let e : lo + 1 + k ≡ lo + suc k = omega arith in
    ap (λ ns. lo ∷ ns) (counting_more (lo + 1) k ∙ ap (λ n. counting_up (lo + 1) k ++ n ∷ []) e)

upward_none : (lo : ℕ) → upward lo lo ≡ []
unfolding upward
upward_none lo = let e : lo - lo ≡ 0 = omega arith in rw e refl

upward_more : (lo hi : ℕ) → lo ≤ hi → upward lo (hi + 1) ≡ upward lo hi ++ hi ∷ []
unfolding upward
upward_more lo hi within =
    let one : hi + 1 - lo ≡ suc (hi - lo) = omega arith in
    let last : lo + (hi - lo) ≡ hi = omega arith in
    ap (counting_up lo) one ∙ counting_more lo (hi - lo) ∙ ap (λ n. counting_up lo (hi - lo) ++ n ∷ []) last

-- behind so many others, those of the columns from lo on and below c are taken
pub record Taken (at : ℕ → Interval) (old new : List Interval) (behind lo c : ℕ) : Type 0 where
  pub taken : take (behind + (c - lo)) new ≡ take behind old ++ map at (upward lo c)
  pub long : length new ≡ length old

pub taken_none : (at : ℕ → Interval) (old : List Interval) (behind lo : ℕ) → Taken at old old behind lo lo
taken_none at old behind lo =
    let e : behind + (lo - lo) ≡ behind = omega arith in
    record { taken = rw (upward_none lo) (ap (λ n. take n old) e ∙ sym (append-nil (take behind old))); long = refl }

pub taken_more : (at : ℕ → Interval) (old mid : List Interval) (behind lo c place : ℕ) (value : Interval) → lo ≤ c → place ≡ behind + (c - lo) → place < length old → value ≡ at c
    → Taken at old mid behind lo c → Taken at old (set mid place value) behind lo (c + 1)
taken_more at old mid behind lo c place value some here within is so_far =
    let next : behind + (c + 1 - lo) ≡ place + 1 = omega arith in
    record {
      taken =
          take-set_at mid place (behind + (c + 1 - lo)) value (omega (arith, next)) (omega (arith, so_far.long, within)) ∙ ap (λ (n : ℕ). take n mid ++ value ∷ []) here
          ∙ ap (λ (vs : List Interval). vs ++ value ∷ []) so_far.taken ∙ append_assoc (take behind old) (map at (upward lo c)) (value ∷ [])
          ∙ ap (λ (v : Interval). take behind old ++ (map at (upward lo c) ++ v ∷ [])) is ∙ ap (λ (vs : List Interval). take behind old ++ vs) (sym (map-append at (upward lo c) (c ∷ [])))
          ∙ ap (λ ns. take behind old ++ map at ns) (sym (upward_more lo c some));
      long = length-set mid place value ∙ so_far.long;
    }

-- those of all columns are taken
pub taken_whole : (at : ℕ → Interval) (old new : List Interval) (c n : ℕ) → c ≡ n + 1 → length old ≡ n → Taken at old new 0 1 c → new ≡ map at (upward 1 (n + 1))
taken_whole at old new c n end all taken =
    sym (take_all (0 + (c - 1)) new (omega (arith, end, all, taken.long))) ∙ taken.taken ∙ ap (λ (m : ℕ). map at (upward 1 m)) end
