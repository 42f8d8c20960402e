-- What a row tells.
use Rattle.std.proofs.Common.{◌≡◌, ◌≢◌, ◌⊎◌, ◌<◌, ◌+◌, ℕ, zero, suc, List, [], ◌∷◌, ◌++◌, length, Bool, true, false, cond, Option, Some, None, Result, Ok, Err, inl, inr, refl, ◌∙◌, ap, sym, subst, arith}
use Rattle.std.specs.Prelude.{slice_get, slice_set, ◌==◌}
use Rattle.std.proofs.lemmas.Bool.Decides.{nat_tests}
use Rattle.std.proofs.lemmas.Option.{slice_get_within}
use Rattle.std.proofs.lemmas.List.{length-set}
use Rattle.rb_num.specs.Interval.{Interval}
use Rattle.rb_result.specs.Steps.{◌>>=◌, placed}
use Rattle.rb_text.specs.Bracket.{bracket_of}
use Rattle.rb_text.specs.declared.bracket.TextFault.{TextFault}
use Rattle.rb_tree.specs.Robot.{Tree}
use Rattle.rb_tree.specs.State.{Row}
use Rattle.rb_rows.specs.declared.faults.FieldFault.{FieldFault}
use Rattle.rb_rows.specs.declared.faults.FieldKind.TheVariants.{Count}
use Rattle.rb_rows.specs.declared.header.Target.{Target}
use Rattle.rb_rows.specs.declared.header.Target.TheVariants as To
use Rattle.rb_rows.specs.Faults.{field_fault}
use Rattle.rb_rows.specs.Columns.{numbered, state_targets, state_columns}
use Rattle.rb_rows.specs.Header.{is_remark, HasPlace, HasPlaces}
use Rattle.rb_record.specs.Record.{fields_in}
use Rattle.rb_rows.specs.Row.{with_number, text_fault, told, filled, row_told, row_of, IsAlike}
use Rattle.rb_rows.specs.Laws.{number_at, IsTold, IsRowOf, RowTellsNumbers}
use Rattle.rb_rows.proofs.Targets.{entries, columns, part, last_two, last_three, in_parts, length-numbered}
use Rattle.rb_rows.proofs.RowSteps.{alike_same, places_stay}
use Rattle.rb_rows.proofs.HeaderLaws.{AllStand, Stands, of_header, all_stand}

-- ---- no two fields stand for one number
get_append : {A : Type 0} (xs ys : List A) (m : ℕ) (x : A) → slice_get (xs ++ ys) m ≡ Some x → (slice_get xs m ≡ Some x) ⊎ ((k : ℕ) × (m ≡ length xs + k) × (slice_get ys k ≡ Some x))
get_append [] ys m x is = inr (m, omega arith, is)
get_append (y ∷ xs) ys zero x is = inl is
get_append (y ∷ xs) ys (suc m) x is = elim (get_append xs ys m x is) [
  | inl here ↦ inl here
  | inr there ↦ inr (there.0, omega (arith, there.1), there.2)
]

numbered-inv : {A : Type 0} (to : ℕ → Target) (place : ℕ) (xs : List A) (k : ℕ) (t : Target) → slice_get (numbered to place xs) k ≡ Some t → t ≡ to (place + k)
numbered-inv to place [] k t is = absurd cc
numbered-inv to place (x ∷ xs) zero t is = let same : to place ≡ t = cc in let at : place ≡ place + 0 = omega arith in sym same ∙ ap to at
numbered-inv to place (x ∷ xs) (suc k) t is = let at : place + 1 + k ≡ place + suc k = omega arith in numbered-inv to (place + 1) xs k t is ∙ ap to at

-- where a number stands among those of a state
abbrev place_of_target : ℕ → ℕ → Target → ℕ
place_of_target entries columns To.Remark = 0
place_of_target entries columns (To.Entry k) = k
place_of_target entries columns (To.Speed k) = entries + k
place_of_target entries columns (To.Acceleration k) = entries + (columns + k)
place_of_target entries columns (To.Torque k) = entries + (columns + (columns + k))

module _ (tree : Tree) where
  place_is : (m : ℕ) (t : Target) → slice_get (state_targets tree) m ≡ Some t → m ≡ place_of_target (length (entries tree)) (length (columns tree)) t
  place_is m t is =
      let n = length (entries tree) in
      let c = length (columns tree) in
      elim (get_append (part To.Entry (entries tree)) (last_three tree) m t (sym (ap (λ xs. slice_get xs m) (in_parts tree)) ∙ is)) [
        | inl entry ↦ let e = ap (place_of_target n c) (numbered-inv To.Entry 0 (entries tree) m t entry) in omega (arith, e)
        | inr three ↦ elim (get_append (part To.Speed (columns tree)) (last_two tree) three.0 t three.2) [
          | inl speed ↦ let e = ap (place_of_target n c) (numbered-inv To.Speed 0 (columns tree) three.0 t speed) in omega (arith, e, three.1, length-numbered To.Entry 0 (entries tree))
          | inr two ↦ elim (get_append (part To.Acceleration (columns tree)) (part To.Torque (columns tree)) two.0 t two.2) [
            | inl acceleration ↦
                let e = ap (place_of_target n c) (numbered-inv To.Acceleration 0 (columns tree) two.0 t acceleration) in
                omega (arith, e, three.1, two.1, length-numbered To.Entry 0 (entries tree), length-numbered To.Speed 0 (columns tree))
            | inr last ↦
                let e = ap (place_of_target n c) (numbered-inv To.Torque 0 (columns tree) last.0 t last.2) in
                omega (arith, e, three.1, two.1, last.1, length-numbered To.Entry 0 (entries tree), length-numbered To.Speed 0 (columns tree), length-numbered To.Acceleration 0 (columns tree))
          ]
        ]
      ]

-- no number is stood for twice
abbrev Once : List Target → Type 0
Once targets = (i j : ℕ) (t : Target) → i < j → slice_get targets i ≡ Some t → slice_get targets j ≡ Some t → t ≡ To.Remark

field_at_place : {A : Type 0} (xs : List A) (k n : ℕ) → n ≡ length xs → k < n → (x : A) × (slice_get xs k ≡ Some x)
field_at_place [] k n e h = absurd (omega (arith, e))
field_at_place (x ∷ xs) zero n e h = (x, refl)
field_at_place (x ∷ xs) (suc k) n e h = field_at_place xs k (length xs) refl (omega (arith, e))

once : (tree : Tree) (fields : List (List ℕ)) (targets : List Target) → AllStand tree [] fields targets → Once targets
once tree fields targets all i j t less at other =
    let a = field_at_place fields i (length targets) all.count (slice_get_within targets i t at) in
    let b = field_at_place fields j (length targets) all.count (slice_get_within targets j t other) in
    by a.0 b.0 a.1 b.1 (all.each i a.0 t a.1 at) (all.each j b.0 t b.1 other)
  where
    by : (f g : List ℕ) → slice_get fields i ≡ Some f → slice_get fields j ≡ Some g → Stands tree f t → Stands tree g t → t ≡ To.Remark
    by f g here there (inl remark) second = remark.1
    by f g here there (inr named) (inl remark) = remark.1
    by f g here there (inr first) (inr second) =
        let places : first.1.place ≡ second.1.place = place_is tree first.1.place t first.1.target_is ∙ sym (place_is tree second.1.place t second.1.target_is) in
        let same : f ≡ g = some_same (sym first.1.name_is ∙ ap (slice_get (state_columns tree)) places ∙ second.1.name_is) in
        let remark : is_remark f ≡ true = all.once i j f less here (there ∙ ap Some (sym same)) in
        let odd : true ≡ false = sym remark ∙ first.0 in
        absurd cc
      where
        some_same : {x y : List ℕ} → Some x ≡ Some y → x ≡ y
        some_same is = cc

-- ---- one number
set_here : (xs : List Interval) (k : ℕ) (v : Interval) → k < length xs → slice_get (slice_set xs k v) k ≡ Some v
set_here [] k v h = absurd (omega arith)
set_here (x ∷ xs) zero v h = refl
set_here (x ∷ xs) (suc k) v h = set_here xs k v (omega arith)

set_other : (xs : List Interval) (k j : ℕ) (v : Interval) → j ≢ k → slice_get (slice_set xs k v) j ≡ slice_get xs j
set_other [] k j v h = refl
set_other (x ∷ xs) zero zero v h = absurd (h refl)
set_other (x ∷ xs) zero (suc j) v h = refl
set_other (x ∷ xs) (suc k) zero v h = refl
set_other (x ∷ xs) (suc k) (suc j) v h = set_other xs k j v (λ e. h (ap suc e))

with_here : (t : Target) (v : Interval) (row : Row) → t ≢ To.Remark → HasPlace row t → number_at (with_number t v row) t ≡ Some v
with_here To.Remark v row h place = absurd (h refl)
with_here (To.Entry k) v row h place = set_here row.q k v place
with_here (To.Speed k) v row h place = set_here row.v k v place
with_here (To.Acceleration k) v row h place = set_here row.a k v place
with_here (To.Torque k) v row h place = set_here row.tau k v place

with_other : (t : Target) (v : Interval) (row : Row) (s : Target) → s ≢ t → number_at (with_number t v row) s ≡ number_at row s
with_other To.Remark v row s h = refl
with_other (To.Entry k) v row To.Remark h = refl
with_other (To.Entry k) v row (To.Entry j) h = set_other row.q k j v (λ e. h (ap To.Entry e))
with_other (To.Entry k) v row (To.Speed j) h = refl
with_other (To.Entry k) v row (To.Acceleration j) h = refl
with_other (To.Entry k) v row (To.Torque j) h = refl
with_other (To.Speed k) v row To.Remark h = refl
with_other (To.Speed k) v row (To.Entry j) h = refl
with_other (To.Speed k) v row (To.Speed j) h = set_other row.v k j v (λ e. h (ap To.Speed e))
with_other (To.Speed k) v row (To.Acceleration j) h = refl
with_other (To.Speed k) v row (To.Torque j) h = refl
with_other (To.Acceleration k) v row To.Remark h = refl
with_other (To.Acceleration k) v row (To.Entry j) h = refl
with_other (To.Acceleration k) v row (To.Speed j) h = refl
with_other (To.Acceleration k) v row (To.Acceleration j) h = set_other row.a k j v (λ e. h (ap To.Acceleration e))
with_other (To.Acceleration k) v row (To.Torque j) h = refl
with_other (To.Torque k) v row To.Remark h = refl
with_other (To.Torque k) v row (To.Entry j) h = refl
with_other (To.Torque k) v row (To.Speed j) h = refl
with_other (To.Torque k) v row (To.Acceleration j) h = refl
with_other (To.Torque k) v row (To.Torque j) h = set_other row.tau k j v (λ e. h (ap To.Torque e))

with_alike : (t : Target) (v : Interval) (row : Row) → IsAlike row (with_number t v row)
with_alike To.Remark v row = alike_same row
with_alike (To.Entry k) v row = record { q = length-set row.q k v; v = refl; a = refl; tau = refl; gravity = refl }
with_alike (To.Speed k) v row = record { q = refl; v = length-set row.v k v; a = refl; tau = refl; gravity = refl }
with_alike (To.Acceleration k) v row = record { q = refl; v = refl; a = length-set row.a k v; tau = refl; gravity = refl }
with_alike (To.Torque k) v row = record { q = refl; v = refl; a = refl; tau = length-set row.tau k v; gravity = refl }

-- what one field does
record IsStep (t : Target) (field : List ℕ) (old mid : Row) : Type 0 where
  pub is : IsTold t field old mid
  pub keeps : (s : Target) → s ≢ t → number_at mid s ≡ number_at old s
  pub alike : IsAlike old mid

abbrev row_ok : Row → Result Row FieldFault
row_ok row = Ok row

still : (t : Target) (field : List ℕ) (old mid : Row) → IsTold t field old old → row_ok old ≡ Ok mid → IsStep t field old mid
still t field old mid is e = let same : old ≡ mid = cc in subst (IsStep t field old) same (record { is = is; keeps = λ s h. refl; alike = alike_same old })

-- what a bracket does
set : (t : Target) (number : ℕ) (field : List ℕ) (old mid : Row) → (told_is : (new : Row) (v : Interval) → bracket_of field ≡ Ok v → number_at new t ≡ Some v → IsTold t field old new) → t ≢ To.Remark → HasPlace old t
    → (r : Result Interval TextFault) → bracket_of field ≡ r → (placed text_fault number r >>= λ v. Ok (with_number t v old)) ≡ Ok mid → IsStep t field old mid
set t number field old mid told_is plain place (Err fault) e h = absurd cc
set t number field old mid told_is plain place (Ok v) e h =
    let same : with_number t v old ≡ mid = cc in
    subst (IsStep t field old) same (record { is = told_is (with_number t v old) v e (with_here t v old plain place); keeps = λ s other. with_other t v old s other; alike = with_alike t v old })

step : (t : Target) (number : ℕ) (field : List ℕ) (old mid : Row) → HasPlace old t → told t number field old ≡ Ok mid → IsStep t field old mid
step To.Remark number field old mid place h = still To.Remark field old mid tt h
step (To.Entry k) number [] old mid place h = still (To.Entry k) [] old mid refl h
step (To.Speed k) number [] old mid place h = still (To.Speed k) [] old mid refl h
step (To.Acceleration k) number [] old mid place h = still (To.Acceleration k) [] old mid refl h
step (To.Torque k) number [] old mid place h = still (To.Torque k) [] old mid refl h
step (To.Entry k) number (byte ∷ bytes) old mid place h = set (To.Entry k) number (byte ∷ bytes) old mid (λ new v e at. (v, e, at)) (λ e. absurd cc) place (bracket_of (byte ∷ bytes)) refl h
step (To.Speed k) number (byte ∷ bytes) old mid place h = set (To.Speed k) number (byte ∷ bytes) old mid (λ new v e at. (v, e, at)) (λ e. absurd cc) place (bracket_of (byte ∷ bytes)) refl h
step (To.Acceleration k) number (byte ∷ bytes) old mid place h = set (To.Acceleration k) number (byte ∷ bytes) old mid (λ new v e at. (v, e, at)) (λ e. absurd cc) place (bracket_of (byte ∷ bytes)) refl h
step (To.Torque k) number (byte ∷ bytes) old mid place h = set (To.Torque k) number (byte ∷ bytes) old mid (λ new v e at. (v, e, at)) (λ e. absurd cc) place (bracket_of (byte ∷ bytes)) refl h

-- it was told, and stays so
told_on : (t : Target) (field : List ℕ) (old mid new : Row) → (t ≢ To.Remark → number_at new t ≡ number_at mid t) → IsTold t field old mid → IsTold t field old new
told_on To.Remark field old mid new on is = tt
told_on (To.Entry k) [] old mid new on is = on (λ e. absurd cc) ∙ is
told_on (To.Speed k) [] old mid new on is = on (λ e. absurd cc) ∙ is
told_on (To.Acceleration k) [] old mid new on is = on (λ e. absurd cc) ∙ is
told_on (To.Torque k) [] old mid new on is = on (λ e. absurd cc) ∙ is
told_on (To.Entry k) (byte ∷ bytes) old mid new on is = (is.0, is.1, on (λ e. absurd cc) ∙ is.2)
told_on (To.Speed k) (byte ∷ bytes) old mid new on is = (is.0, is.1, on (λ e. absurd cc) ∙ is.2)
told_on (To.Acceleration k) (byte ∷ bytes) old mid new on is = (is.0, is.1, on (λ e. absurd cc) ∙ is.2)
told_on (To.Torque k) (byte ∷ bytes) old mid new on is = (is.0, is.1, on (λ e. absurd cc) ∙ is.2)

-- it is told, and was as before
told_from : (t : Target) (field : List ℕ) (old mid new : Row) → (t ≢ To.Remark → number_at mid t ≡ number_at old t) → IsTold t field mid new → IsTold t field old new
told_from To.Remark field old mid new from is = tt
told_from (To.Entry k) [] old mid new from is = is ∙ from (λ e. absurd cc)
told_from (To.Speed k) [] old mid new from is = is ∙ from (λ e. absurd cc)
told_from (To.Acceleration k) [] old mid new from is = is ∙ from (λ e. absurd cc)
told_from (To.Torque k) [] old mid new from is = is ∙ from (λ e. absurd cc)
told_from (To.Entry k) (byte ∷ bytes) old mid new from is = is
told_from (To.Speed k) (byte ∷ bytes) old mid new from is = is
told_from (To.Acceleration k) (byte ∷ bytes) old mid new from is = is
told_from (To.Torque k) (byte ∷ bytes) old mid new from is = is

-- ---- all numbers
row_more : (t : Target) (targets : List Target) (field : List ℕ) (fields : List (List ℕ)) (old mid new : Row) → Once (t ∷ targets) → IsStep t field old mid → IsRowOf targets fields mid new → IsRowOf (t ∷ targets) (field ∷ fields) old new
row_more t targets field fields old mid new single one rest = record {
  count = ap suc rest.count;
  named = named;
  others = λ s absent. rest.others s (λ k e. absent (suc k) e) ∙ one.keeps s (λ e. absent 0 (ap Some (sym e)));
  gravity = rest.gravity ∙ one.alike.gravity;
}
  where
    named : (k : ℕ) (s : Target) (other : List ℕ) → slice_get (t ∷ targets) k ≡ Some s → slice_get (field ∷ fields) k ≡ Some other → IsTold s other old new
    named zero s other at here =
        let same : t ≡ s = cc in
        let text : field ≡ other = cc in
        let first : IsTold t field old new = told_on t field old mid new (λ plain. rest.others t (λ k e. plain (single 0 (suc k) t (omega arith) refl e))) one.is in
        subst (λ x. IsTold x other old new) same (subst (λ x. IsTold t x old new) text first)
    named (suc k) s other at here =
        told_from s other old mid new (λ plain. one.keeps s (λ e. plain (single 0 (suc k) s (omega arith) (ap Some (sym e)) at))) (rest.named k s other at here)

all_told : (targets : List Target) (fields : List (List ℕ)) (number : ℕ) (old new : Row) → Once targets → HasPlaces targets old → length fields ≡ length targets → filled number targets fields old ≡ Ok new → IsRowOf targets fields old new
unfolding filled
all_told [] [] number old new single places count is =
    let same : old ≡ new = cc in
    subst (IsRowOf [] [] old) same (record { count = refl; named = λ k t field at here. absurd cc; others = λ t absent. refl; gravity = refl })
all_told [] (field ∷ fields) number old new single places count is = absurd (omega (arith, count))
all_told (t ∷ targets) [] number old new single places count is = absurd (omega (arith, count))
all_told (t ∷ targets) (field ∷ fields) number old new single places count is =
    by (all_told targets fields (number + 1)) (told t number field old) refl is
  where
    by : ((mid last : Row) → Once targets → HasPlaces targets mid → length fields ≡ length targets → filled (number + 1) targets fields mid ≡ Ok last → IsRowOf targets fields mid last)
        → (r : Result Row FieldFault) → told t number field old ≡ r → (r >>= filled (number + 1) targets fields) ≡ Ok new → IsRowOf (t ∷ targets) (field ∷ fields) old new
    by further (Err fault) e h = absurd cc
    by further (Ok mid) e h =
        let one = step t number field old mid places.0 e in
        let behind : Once targets = λ i j s less at other. single (suc i) (suc j) s (omega arith) at other in
        row_more t targets field fields old mid new single one (further mid new behind (places_stay old mid one.alike targets places.1) (omega (arith, count)) h)

pub row_tells : RowTellsNumbers
unfolding row_of
row_tells tree first line targets old new kept header places is = by (fields_in line) refl is
  where
    single : Once targets
    single = let found = of_header tree first targets header in once tree found.0 targets (all_stand tree [] found.0 targets found.2)

    by_count : (fields : List (List ℕ)) (equal : Bool) → (length fields == length targets) ≡ equal → cond equal (filled 1 targets fields old) (Err (field_fault Count (length fields))) ≡ Ok new → IsRowOf targets fields old new
    by_count fields false e h = absurd cc
    by_count fields true e h = let count : length fields ≡ length targets = grind (arith, nat_tests) in all_told targets fields 1 old new single places count h

    by : (found : Option (List (List ℕ))) → fields_in line ≡ found → row_told targets found old ≡ Ok new → (fields : List (List ℕ)) × (fields_in line ≡ Some fields) × IsRowOf targets fields old new
    by None e h = absurd cc
    by (Some fields) e h = (fields, e, by_count fields (length fields == length targets) refl h)
