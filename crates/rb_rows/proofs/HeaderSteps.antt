-- The fields of a header, one by one.
use Rattle.std.proofs.Common.{◌≡◌, ◌<◌, ◌+◌, ℕ, zero, suc, List, [], ◌∷◌, ◌++◌, length, take, drop, get_or, Bool, true, false, not, cond, ◌||◌, Option, Some, None, Result, Ok, Err, refl, ◌∙◌, ap, sym, arith, append_assoc, drop-cons, add-one, append-nil, ◌≤◌}
use Rattle.std.specs.Prelude.{bytes_eq, option_map, unwrap_or}
use denote.Ref.{Bor}
use Rattle.std.specs.List.{list_any}
use Rattle.std.proofs.lemmas.List.{take_more}
use Rattle.std.proofs.lemmas.List.Folds.{list_any-append}
use Rattle.std.proofs.lemmas.Slice.Eq.{bytes_eq-Decides}
use Rattle.csv.specs.Records.{field_at}
use Rattle.csv.proofs.RecordFacts.{field-get, field-there}
use Rattle.rb_result.specs.Steps.{◌>>=◌}
use Rattle.rb_tree.specs.Robot.{Tree}
use Rattle.rb_rows.specs.declared.faults.HeaderFault.{HeaderFault}
use Rattle.rb_rows.specs.declared.header.Target.{Target}
use Rattle.std.specs.Str.{is_utf8, IsUtf8}
use Rattle.std.specs.Result.{MatchResult, is_ok}
use Rattle.std.proofs.lemmas.Str.{IsUtf8-from_is_utf8, is_utf8-from_IsUtf8}
use Rattle.std.specs.Prelude.{is_some}
use Rattle.rb_rows.specs.declared.faults.HeaderKind.TheVariants.{BadHeader}
use Rattle.rb_rows.specs.Faults.{header_fault}
use Rattle.rb_record.specs.Record.{fields_in}
use Rattle.rb_rows.specs.Header.{is_among, target_after, targets_after, targets_of, header_of}
use Rattle.rb_rows.proofs.RowSteps.{record_is}

-- ---- the names that were seen
-- a set has the names of a list
abbrev pub HasSeen : List (List ℕ) → List (List ℕ) → Type 0
HasSeen seen before = (name : List ℕ) → list_any (bytes_eq name) seen ≡ is_among before name

same_sides : (x y : List ℕ) → bytes_eq x y ≡ bytes_eq y x
same_sides x y = by (bytes_eq x y) refl (bytes_eq y x) refl
  where
    by : (a : Bool) → bytes_eq x y ≡ a → (b : Bool) → bytes_eq y x ≡ b → a ≡ b
    by true e true f = refl
    by false e false f = refl
    by true e false f = let g : true ≡ false = sym ((bytes_eq-Decides y x).1 (sym ((bytes_eq-Decides x y).0 e))) ∙ f in absurd cc
    by false e true f = let g : true ≡ false = sym ((bytes_eq-Decides x y).1 (sym ((bytes_eq-Decides y x).0 f))) ∙ e in absurd cc

among_more : (before : List (List ℕ)) (field name : List ℕ) → is_among (before ++ field ∷ []) name ≡ (is_among before name || (bytes_eq field name || false))
among_more before field name = list_any-append (λ earlier. bytes_eq earlier name) before (field ∷ [])

pub seen_more : (seen before new : List (List ℕ)) (field : List ℕ) (added : Bool) → HasSeen seen before → added ≡ not (list_any (bytes_eq field) seen) → new ≡ cond added (seen ++ field ∷ []) seen
    → HasSeen new (before ++ field ∷ [])
seen_more seen before new field true has a e name =
    rw e (list_any-append (bytes_eq name) seen (field ∷ []) ∙ ap (λ b. b || (bytes_eq name field || false)) (has name) ∙ ap (λ b. is_among before name || (b || false)) (same_sides name field)
    ∙ sym (among_more before field name))
seen_more seen before new field false has a e name = rw e (has name ∙ by (bytes_eq field name) refl ∙ sym (among_more before field name))
  where
    taken : is_among before field ≡ true
    taken = sym (has field) ∙ not_false (list_any (bytes_eq field) seen) a
      where
        not_false : (b : Bool) → false ≡ not b → b ≡ true
        not_false true h = refl
        not_false false h = absurd cc

    by : (b : Bool) → bytes_eq field name ≡ b → is_among before name ≡ (is_among before name || (b || false))
    by true same = ap (is_among before) (sym ((bytes_eq-Decides field name).0 same)) ∙ taken ∙ sym (or_true (is_among before name))
      where
        or_true : (b : Bool) → (b || true) ≡ true
        or_true true = refl
        or_true false = refl
    by false same = sym (or_false (is_among before name))
      where
        or_false : (b : Bool) → (b || false) ≡ b
        or_false true = refl
        or_false false = refl

-- ---- the fields so far
-- what the fields of a place on stand for, behind what those before it do
abbrev pub with_rest : Tree → List (List ℕ) → ℕ → List Target → Result (List Target) HeaderFault
with_rest tree fields index targets = targets_after tree (take index fields) (drop index fields) >>= λ rest. Ok (targets ++ rest)

pub rest_of_none : (tree : Tree) (fields : List (List ℕ)) → targets_after tree [] fields ≡ with_rest tree fields 0 []
rest_of_none tree fields = by (targets_after tree [] fields)
  where
    by : (r : Result (List Target) HeaderFault) → r ≡ (r >>= λ rest. Ok ([] ++ rest))
    by (Ok targets) = refl
    by (Err fault) = refl

module _ (tree : Tree) (before : List (List ℕ)) (field : List ℕ) (fields : List (List ℕ)) (targets : List Target) where
  step : (target : Target) → target_after tree before (length before + 1) field ≡ Ok target → (targets_after tree before (field ∷ fields) >>= λ rest. Ok (targets ++ rest))
      ≡ (targets_after tree (before ++ field ∷ []) fields >>= λ rest. Ok ((targets ++ target ∷ []) ++ rest))
  unfolding targets_after
  step target is = rw is (by (targets_after tree (before ++ field ∷ []) fields))
    where
      by : (r : Result (List Target) HeaderFault) → ((r >>= λ others. Ok (target ∷ others)) >>= λ rest. Ok (targets ++ rest)) ≡ (r >>= λ rest. Ok ((targets ++ target ∷ []) ++ rest))
      by (Ok others) = ap Ok (sym (append_assoc targets (target ∷ []) others))
      by (Err fault) = refl

  stop : (fault : HeaderFault) → target_after tree before (length before + 1) field ≡ Err fault → (targets_after tree before (field ∷ fields) >>= λ rest. Ok (targets ++ rest)) ≡ Err fault
  unfolding targets_after
  stop fault is = rw is refl

-- the field of a place
module _ (fields : List (List ℕ)) (index : ℕ) (field : List ℕ) (within : index < length fields) (here : get_or fields index [] ≡ field) where
  pub taken_with : take (index + 1) fields ≡ take index fields ++ field ∷ []
  taken_with = take_more fields index [] within ∙ ap (λ x. take index fields ++ x ∷ []) here

  pub left_behind : drop index fields ≡ field ∷ drop (index + 1) fields
  left_behind = drop-cons fields index [] within ∙ ap (λ x. x ∷ drop (suc index) fields) here ∙ ap (λ n. field ∷ drop n fields) (sym (add-one index))

taken_size : (fields : List (List ℕ)) (index : ℕ) → index < length fields → length (take index fields) ≡ index
taken_size [] index h = absurd (omega arith)
taken_size (x ∷ fields) zero h = refl
taken_size (x ∷ fields) (suc index) h = ap suc (taken_size fields index (omega arith))

module _ (tree : Tree) (fields : List (List ℕ)) (index : ℕ) (field : List ℕ) (targets : List Target) (within : index < length fields) (here : get_or fields index [] ≡ field) where
  numbered_so : (number : ℕ) → number ≡ index + 1 → number ≡ length (take index fields) + 1
  numbered_so number e = e ∙ ap (λ n. n + 1) (sym (taken_size fields index within))

  pub with_more : (number : ℕ) (target : Target) → number ≡ index + 1 → target_after tree (take index fields) number field ≡ Ok target
      → with_rest tree fields index targets ≡ with_rest tree fields (index + 1) (targets ++ target ∷ [])
  with_more number target e is =
      ap (λ left. targets_after tree (take index fields) left >>= λ rest. Ok (targets ++ rest)) (left_behind fields index field within here)
      ∙ step tree (take index fields) field (drop (index + 1) fields) targets target (ap (λ n. target_after tree (take index fields) n field) (sym (numbered_so number e)) ∙ is)
      ∙ ap (λ front. targets_after tree front (drop (index + 1) fields) >>= λ rest. Ok ((targets ++ target ∷ []) ++ rest)) (sym (taken_with fields index field within here))

  pub with_fault : (number : ℕ) (fault : HeaderFault) → number ≡ index + 1 → target_after tree (take index fields) number field ≡ Err fault → with_rest tree fields index targets ≡ Err fault
  with_fault number fault e is =
      ap (λ left. targets_after tree (take index fields) left >>= λ rest. Ok (targets ++ rest)) (left_behind fields index field within here)
      ∙ stop tree (take index fields) field (drop (index + 1) fields) targets fault (ap (λ n. target_after tree (take index fields) n field) (sym (numbered_so number e)) ∙ is)

none_left : (fields : List (List ℕ)) (index : ℕ) → length fields ≤ index → drop index fields ≡ []
none_left [] zero h = refl
none_left [] (suc index) h = refl
none_left (x ∷ fields) zero h = absurd (omega arith)
none_left (x ∷ fields) (suc index) h = none_left fields index (omega arith)

pub with_none : (tree : Tree) (fields : List (List ℕ)) (index : ℕ) (targets : List Target) → length fields ≤ index → with_rest tree fields index targets ≡ Ok targets
unfolding targets_after
with_none tree fields index targets past = rw (none_left fields index past) (ap Ok (append-nil targets))

-- the field that a record gives
pub field_here : (fields : List (List ℕ)) (index : ℕ) (found : Option (Bor (List ℕ))) (d field : Bor (List ℕ)) → index < length fields → option_map (λ s. s.now) found ≡ field_at fields index → field ≡ unwrap_or found d
    → get_or fields index [] ≡ field.now
field_here fields index None d field within value is = absurd (field-there fields index within (sym value))
field_here fields index (Some x) d field within value is = field-get fields index x.now (sym value) ∙ ap (λ (s : Bor (List ℕ)). s.now) (sym is)

-- ---- whether a line is text
pub header_not_text : (tree : Tree) (line : List ℕ) → is_utf8 line ≡ false → header_of tree line ≡ Err (header_fault BadHeader 0)
unfolding header_of
header_not_text tree line is = ap (λ b. cond b (targets_of tree (fields_in line)) (Err (header_fault BadHeader 0))) is

pub header_of_text : (tree : Tree) (line : List ℕ) (one : Bool) (fields : List (List ℕ)) → is_utf8 line ≡ true → one ≡ is_some (fields_in line) → (one ≡ true → fields_in line ≡ Some fields)
    → header_of tree line ≡ targets_of tree (cond one (Some fields) None)
unfolding header_of
header_of_text tree line one fields is some has =
    ap (λ b. cond b (targets_of tree (fields_in line)) (Err (header_fault BadHeader 0))) is ∙ ap (targets_of tree) (record_is (fields_in line) one fields some has)

-- what the test of a line says
pub text_tested : {A E : Type 0} (line : List ℕ) (P : A → Type 0) (Q : E → Type 0) (r : Result A E) (b : Bool) → MatchResult r (λ s. P s × IsUtf8 line) (λ e. ¬ (IsUtf8 line) × Q e) → b ≡ is_ok r → b ≡ is_utf8 line
text_tested line P Q (Ok s) b cases is = is ∙ sym (is_utf8-from_IsUtf8 line cases.1)
text_tested line P Q (Err e) b cases is = is ∙ by (is_utf8 line) refl
  where
    by : (b : Bool) → is_utf8 line ≡ b → false ≡ b
    by false e = refl
    by true e = absurd (cases.0 (IsUtf8-from_is_utf8 line e))
