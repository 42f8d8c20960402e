-- The fields of a row, one by one.
use Rattle.std.proofs.Common.{◌≡◌, ◌<◌, ◌≤◌, ◌+◌, ℕ, zero, suc, List, [], ◌∷◌, length, drop, get_or, Option, Some, None, Result, Ok, Err, Bool, true, false, cond, refl, ◌∙◌, ap, sym, arith, drop-cons, add-one}
use Rattle.std.specs.Prelude.{is_some, OnOk, IfErr}
use Rattle.rb_result.specs.Steps.{◌>>=◌}
use Rattle.rb_tree.specs.Robot.{Tree}
use Rattle.rb_tree.specs.State.{Row, Fits}
use Rattle.rb_rows.specs.declared.faults.FieldFault.{FieldFault}
use Rattle.rb_rows.specs.declared.header.Target.{Target}
use Rattle.rb_rows.specs.declared.header.Target.TheVariants as To
use Rattle.rb_rows.specs.Header.{HasPlace, HasPlaces}
use Rattle.rb_record.specs.Record.{fields_in}
use Rattle.rb_rows.specs.Row.{told, filled, filled_from, row_told, row_of, IsAlike}

-- ---- what stays
pub alike_same : (row : Row) → IsAlike row row
alike_same row = record { q = refl; v = refl; a = refl; tau = refl; gravity = refl }

pub alike_then : (a b c : Row) → IsAlike a b → IsAlike b c → IsAlike a c
alike_then a b c one two = record { q = two.q ∙ one.q; v = two.v ∙ one.v; a = two.a ∙ one.a; tau = two.tau ∙ one.tau; gravity = two.gravity ∙ one.gravity }

module _ (old new : Row) (alike : IsAlike old new) where
  place_stays : (target : Target) → HasPlace old target → HasPlace new target
  place_stays To.Remark h = h
  place_stays (To.Entry k) h = omega (arith, alike.q)
  place_stays (To.Speed k) h = omega (arith, alike.v)
  place_stays (To.Acceleration k) h = omega (arith, alike.a)
  place_stays (To.Torque k) h = omega (arith, alike.tau)

  pub places_stay : (targets : List Target) → HasPlaces targets old → HasPlaces targets new
  places_stay [] h = tt
  places_stay (target ∷ targets) h = (place_stays target h.0, places_stay targets h.1)

pub place_of : (targets : List Target) (row : Row) (k : ℕ) (d : Target) → HasPlaces targets row → k < length targets → HasPlace row (get_or targets k d)
place_of [] row k d h within = absurd (omega arith)
place_of (target ∷ targets) row zero d h within = h.0
place_of (target ∷ targets) row (suc k) d h within = place_of targets row k d h.1 (omega arith)

-- ---- the fields from a place on
left : {A : Type 0} (xs : List A) (index : ℕ) (d x : A) → index < length xs → get_or xs index d ≡ x → drop index xs ≡ x ∷ drop (index + 1) xs
left xs index d x within here = drop-cons xs index d within ∙ ap (λ y. y ∷ drop (suc index) xs) here ∙ ap (λ n. x ∷ drop n xs) (sym (add-one index))

step : (number : ℕ) (target : Target) (targets : List Target) (field : List ℕ) (fields : List (List ℕ)) (row : Row) (r : Result Row FieldFault) → told target number field row ≡ r
    → filled number (target ∷ targets) (field ∷ fields) row ≡ (r >>= filled (number + 1) targets fields)
unfolding filled
step number target targets field fields row r is = rw is refl

module _ (targets : List Target) (fields : List (List ℕ)) (index : ℕ) (d target : Target) (field : List ℕ) (row : Row) (some : index < length targets) (within : index < length fields) (is : get_or targets index d ≡ target) (here : get_or fields index [] ≡ field) (number : ℕ) (counts : number ≡ index + 1) where
  from_told : (r : Result Row FieldFault) → told target number field row ≡ r → filled_from targets fields index row ≡ (r >>= filled (index + 1 + 1) (drop (index + 1) targets) (drop (index + 1) fields))
  from_told r told_is =
      ap (λ left. filled (index + 1) left (drop index fields) row) (left targets index d target some is) ∙ ap (λ left. filled (index + 1) (target ∷ drop (index + 1) targets) left row) (left fields index [] field within here)
      ∙ step (index + 1) target (drop (index + 1) targets) field (drop (index + 1) fields) row r (ap (λ n. told target n field row) (sym counts) ∙ told_is)

  pub filled_more : (new : Row) → told target number field row ≡ Ok new → filled_from targets fields index row ≡ filled_from targets fields (index + 1) new
  filled_more new told_is = from_told (Ok new) told_is

  pub filled_fault : (fault : FieldFault) → told target number field row ≡ Err fault → filled_from targets fields index row ≡ Err fault
  filled_fault fault told_is = from_told (Err fault) told_is

  -- so a call that reads it goes on, or has the fault
  pub filled_ok : {A : Type 0} (new : Row) (r : Result A FieldFault) → OnOk r (told target number field row ≡ Ok new) → OnOk r (filled_from targets fields index row ≡ filled_from targets fields (index + 1) new)
  filled_ok new (Ok x) reads = filled_more new reads
  filled_ok new (Err fault) reads = reads

  pub filled_err : {A : Type 0} (r : Result A FieldFault) → IfErr r (λ fault. told target number field row ≡ Err fault) → IfErr r (λ fault. filled_from targets fields index row ≡ Err fault)
  filled_err (Ok x) reads = reads
  filled_err (Err fault) reads = filled_fault fault reads

none_left : {A : Type 0} (xs : List A) (index : ℕ) → length xs ≤ index → drop index xs ≡ []
none_left [] zero h = refl
none_left [] (suc index) h = refl
none_left (x ∷ xs) zero h = absurd (omega arith)
none_left (x ∷ xs) (suc index) h = none_left xs index (omega arith)

pub filled_none : (targets : List Target) (fields : List (List ℕ)) (index : ℕ) (row : Row) → length targets ≤ index → filled_from targets fields index row ≡ Ok row
unfolding filled
filled_none targets fields index row past = rw (none_left targets index past) refl

-- the fields before a place are read
pub record AreRead (targets : List Target) (fields : List (List ℕ)) (old new : Row) (index : ℕ) : Type 0 where
  pub whole : filled 1 targets fields old ≡ filled_from targets fields index new
  pub alike : IsAlike old new

pub read_none : (targets : List Target) (fields : List (List ℕ)) (row : Row) → AreRead targets fields row row 0
read_none targets fields row = record { whole = refl; alike = alike_same row }

pub read_more : (targets : List Target) (fields : List (List ℕ)) (old mid new : Row) (index : ℕ) → AreRead targets fields old mid index
    → filled_from targets fields index mid ≡ filled_from targets fields (index + 1) new → IsAlike mid new → AreRead targets fields old new (index + 1)
read_more targets fields old mid new index so_far more alike = record { whole = so_far.whole ∙ more; alike = alike_then old mid new so_far.alike alike }

pub read_whole : (targets : List Target) (fields : List (List ℕ)) (old new : Row) (index : ℕ) → length targets ≤ index → AreRead targets fields old new index → filled 1 targets fields old ≡ Ok new
read_whole targets fields old new index past so_far = so_far.whole ∙ filled_none targets fields index new past

-- ---- whether there is a record
pub record_is : (line : Option (List (List ℕ))) (one : Bool) (fields : List (List ℕ)) → one ≡ is_some line → (one ≡ true → line ≡ Some fields) → line ≡ cond one (Some fields) None
record_is line true fields is some = some refl
record_is None false fields is some = refl
record_is (Some x) false fields is some = absurd cc

pub row_of_record : (targets : List Target) (line : List ℕ) (row : Row) (one : Bool) (fields : List (List ℕ)) → one ≡ is_some (fields_in line) → (one ≡ true → fields_in line ≡ Some fields)
    → row_of targets line row ≡ row_told targets (cond one (Some fields) None) row
unfolding row_of
row_of_record targets line row one fields some has = ap (λ found. row_told targets found row) (record_is (fields_in line) one fields some has)

-- a row that fits a robot still does
pub fits_still : (old new : Row) → IsAlike old new → (tree : Tree) → Fits tree old → Fits tree new
fits_still old new alike tree fits = record { q = alike.q ∙ fits.q; v = alike.v ∙ fits.v; a = alike.a ∙ fits.a; tau = alike.tau ∙ fits.tau }
