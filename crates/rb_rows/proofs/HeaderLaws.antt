-- What the fields of a header stand for.
use Rattle.std.proofs.Common.{◌≡◌, ◌≢◌, ◌⊎◌, ◌<◌, ◌≤◌, ◌+◌, ℕ, zero, suc, List, [], ◌∷◌, ◌++◌, length, get_or, take, append_assoc, append-nil, Bool, true, false, cond, ◌||◌, Option, Some, None, Result, Ok, Err, inl, inr, refl, ◌∙◌, ap, sym, subst, arith}
use Rattle.std.specs.Prelude.{slice_get, bytes_eq, option_and_then}
use Rattle.std.specs.List.{position, position_or_len}
use Rattle.std.proofs.lemmas.Grind.{common_steps}
use Rattle.std.proofs.lemmas.List.Sums.{fails_before_first}
use Rattle.std.proofs.lemmas.List.{length-append}
use Rattle.rb_rows.proofs.Targets.{names_counted}
use Rattle.std.specs.Option.{ok_or}
use Rattle.std.specs.Str.{is_utf8}
use Rattle.std.proofs.lemmas.Option.{slice_get-get_or, slice_get_within, get_or_from_slice_get}
use Rattle.std.proofs.lemmas.List.Folds.{list_any-append}
use Rattle.std.proofs.lemmas.List.Quantifiers.{position-Some}
use Rattle.std.proofs.lemmas.Slice.Eq.{bytes_eq-Decides}
use Rattle.rb_result.specs.Steps.{◌>>=◌}
use Rattle.rb_tags.specs.Names.{number_of_name}
use Rattle.rb_tree.specs.Robot.{Tree}
use Rattle.rb_rows.specs.declared.faults.HeaderFault.{HeaderFault}
use Rattle.rb_rows.specs.declared.faults.HeaderKind.TheVariants.{BadHeader, UnknownColumn, ColumnTwice}
use Rattle.rb_rows.specs.declared.header.Target.{Target}
use Rattle.rb_rows.specs.declared.header.Target.TheVariants as To
use Rattle.rb_rows.specs.Faults.{header_fault}
use Rattle.rb_rows.specs.Columns.{state_columns, state_targets}
use Rattle.rb_rows.specs.Header.{is_remark, is_among, target_named, target_after, targets_after, targets_of, header_of}
use Rattle.rb_rows.specs.Laws.{StandsFor, HeaderNamesColumns, IsBad, IsFirstBad, HeaderFaultIsFirst}
use Rattle.rb_record.specs.Record.{fields_in}

-- ---- one field
named_stands : (tree : Tree) (name : List ℕ) (t : Target) → target_named tree name ≡ Some t → StandsFor tree name t
unfolding target_named number_of_name
named_stands tree name t is = by_number (number_of_name (state_columns tree) name) refl is
  where
    by_number : (n : Option ℕ) → number_of_name (state_columns tree) name ≡ n → option_and_then (slice_get (state_targets tree)) n ≡ Some t → StandsFor tree name t
    by_number None e is = absurd cc
    by_number (Some n) e is =
        let found = position-Some (bytes_eq name) (state_columns tree) n [] e in
        let same : name ≡ get_or (state_columns tree) n [] = (bytes_eq-Decides name (get_or (state_columns tree) n [])).0 found.1 in
        record { place = n; name_is = slice_get-get_or (state_columns tree) n [] found.0 ∙ ap Some (sym same); target_is = is }

-- what a field stands for
abbrev pub Stands : Tree → List ℕ → Target → Type 0
Stands tree field target = ((is_remark field ≡ true) × (target ≡ To.Remark)) ⊎ ((is_remark field ≡ false) × StandsFor tree field target)

-- a field that is no remark is not among those before it
abbrev pub IsFresh : List (List ℕ) → List ℕ → Type 0
IsFresh before field = is_remark field ≡ false → is_among before field ≡ false

after_stands : (tree : Tree) (before : List (List ℕ)) (number : ℕ) (field : List ℕ) (t : Target) → target_after tree before number field ≡ Ok t → Stands tree field t × IsFresh before field
after_stands tree before number field t is = by (is_remark field) refl (target_named tree field) refl (is_among before field) refl is
  where
    by : (remark : Bool) → is_remark field ≡ remark → (found : Option Target) → target_named tree field ≡ found → (among : Bool) → is_among before field ≡ among →
        cond remark (Ok To.Remark) (ok_or found (header_fault UnknownColumn number) >>= λ target. cond among (Err (header_fault ColumnTwice number)) (Ok target)) ≡ Ok t → Stands tree field t × IsFresh before field
    by true r found e among a is = let same : To.Remark ≡ t = cc in (inl (r, sym same), λ plain. let odd : true ≡ false = sym r ∙ plain in absurd cc)
    by false r None e among a is = absurd cc
    by false r (Some x) e true a is = absurd cc
    by false r (Some x) e false a is = let same : x ≡ t = cc in (inr (r, named_stands tree field t (e ∙ ap Some same)), λ plain. a)

-- ---- all fields
-- each stands for its target, and is fresh behind those before it
pub record AllStand (tree : Tree) (before fields : List (List ℕ)) (targets : List Target) : Type 0 where
  pub count : length targets ≡ length fields
  pub each : (k : ℕ) (field : List ℕ) (target : Target) → slice_get fields k ≡ Some field → slice_get targets k ≡ Some target → Stands tree field target
  pub fresh : (k : ℕ) (field : List ℕ) → slice_get fields k ≡ Some field → IsFresh before field
  pub once : (i j : ℕ) (field : List ℕ) → i < j → slice_get fields i ≡ Some field → slice_get fields j ≡ Some field → is_remark field ≡ true

or_false : (a b : Bool) → (a || b) ≡ false → (a ≡ false) × (b ≡ false)
or_false false false h = (refl, refl)
or_false false true h = absurd cc
or_false true b h = absurd cc

stand_more : (tree : Tree) (before : List (List ℕ)) (field : List ℕ) (fields : List (List ℕ)) (target : Target) (targets : List Target) → Stands tree field target → IsFresh before field
    → AllStand tree (before ++ field ∷ []) fields targets → AllStand tree before (field ∷ fields) (target ∷ targets)
stand_more tree before field fields target targets stands fresh rest = record {
  count = ap suc rest.count;
  each = each;
  fresh = fresh_all;
  once = once;
}
  where
    each : (k : ℕ) (other : List ℕ) (t : Target) → slice_get (field ∷ fields) k ≡ Some other → slice_get (target ∷ targets) k ≡ Some t → Stands tree other t
    each zero other t f g = let one : field ≡ other = cc in let two : target ≡ t = cc in subst (λ x. Stands tree x t) one (subst (Stands tree field) two stands)
    each (suc k) other t f g = rest.each k other t f g

    fresh_all : (k : ℕ) (other : List ℕ) → slice_get (field ∷ fields) k ≡ Some other → IsFresh before other
    fresh_all zero other f plain = let one : field ≡ other = cc in subst (IsFresh before) one fresh plain
    fresh_all (suc k) other f plain = (or_false (is_among before other) (bytes_eq field other || false) (sym (list_any-append (λ earlier. bytes_eq earlier other) before (field ∷ [])) ∙ rest.fresh k other f plain)).0

    differs : (k : ℕ) (other : List ℕ) → slice_get fields k ≡ Some other → is_remark other ≡ false → field ≡ other → ⊥
    differs k other f plain same =
        let last = (or_false (is_among before other) (bytes_eq field other || false) (sym (list_any-append (λ earlier. bytes_eq earlier other) before (field ∷ [])) ∙ rest.fresh k other f plain)).1 in
        let test : bytes_eq field other ≡ true = (bytes_eq-Decides field other).1 same in
        let odd : true ≡ false = sym test ∙ (or_false (bytes_eq field other) false last).0 in
        absurd cc

    by_remark : (k : ℕ) (other : List ℕ) (b : Bool) → is_remark other ≡ b → slice_get fields k ≡ Some other → field ≡ other → is_remark other ≡ true
    by_remark k other true e f same = e
    by_remark k other false e f same = absurd (differs k other f e same)

    once : (i j : ℕ) (other : List ℕ) → i < j → slice_get (field ∷ fields) i ≡ Some other → slice_get (field ∷ fields) j ≡ Some other → is_remark other ≡ true
    once i zero other less f g = absurd (omega arith)
    once zero (suc j) other less f g = let one : field ≡ other = cc in by_remark j other (is_remark other) refl g one
    once (suc i) (suc j) other less f g = rest.once i j other (omega arith) f g

stand_none : (tree : Tree) (before : List (List ℕ)) → AllStand tree before [] []
stand_none tree before = record { count = refl; each = λ k field target f g. absurd cc; fresh = λ k field f. absurd cc; once = λ i j field less f g. absurd cc }

pub all_stand : (tree : Tree) (before fields : List (List ℕ)) (targets : List Target) → targets_after tree before fields ≡ Ok targets → AllStand tree before fields targets
unfolding targets_after
all_stand tree before [] targets is = let same : [] ≡ targets = cc in subst (AllStand tree before []) same (stand_none tree before)
all_stand tree before (field ∷ fields) targets is =
    by (all_stand tree (before ++ field ∷ []) fields) (target_after tree before (length before + 1) field) refl (targets_after tree (before ++ field ∷ []) fields) refl is
  where
    by : ((rest : List Target) → targets_after tree (before ++ field ∷ []) fields ≡ Ok rest → AllStand tree (before ++ field ∷ []) fields rest) → (one : Result Target HeaderFault)
        → target_after tree before (length before + 1) field ≡ one → (others : Result (List Target) HeaderFault) → targets_after tree (before ++ field ∷ []) fields ≡ others
        → (one >>= λ target. others >>= λ rest. Ok (target ∷ rest)) ≡ Ok targets → AllStand tree before (field ∷ fields) targets
    by further (Err fault) e others f is = absurd cc
    by further (Ok target) e (Err fault) f is = absurd cc
    by further (Ok target) e (Ok rest) f is =
        let same : target ∷ rest ≡ targets = cc in
        let one = after_stands tree before (length before + 1) field target e in
        subst (AllStand tree before (field ∷ fields)) same (stand_more tree before field fields target rest one.0 one.1 (further rest f))

-- the fields of a header
pub of_header : (tree : Tree) (line : List ℕ) (targets : List Target) → header_of tree line ≡ Ok targets → (fields : List (List ℕ)) × (fields_in line ≡ Some fields) × (targets_after tree [] fields ≡ Ok targets)
unfolding header_of
of_header tree line targets is = by (is_utf8 line) (fields_in line) refl is
  where
    by : (text : Bool) (record_read : Option (List (List ℕ))) → fields_in line ≡ record_read → cond text (targets_of tree record_read) (Err (header_fault BadHeader 0)) ≡ Ok targets
        → (fields : List (List ℕ)) × (fields_in line ≡ Some fields) × (targets_after tree [] fields ≡ Ok targets)
    by false r e is = absurd cc
    by true None e is = absurd cc
    by true (Some fields) e is = (fields, e, is)

pub names_columns : HeaderNamesColumns
names_columns tree line targets is =
    let found = of_header tree line targets is in
    let all = all_stand tree [] found.0 targets found.2 in
    (found.0, found.1, record { count = all.count; each = all.each; once = all.once })

-- ---- the first bad field
none_passes : (p : List ℕ → Bool) (xs : List (List ℕ)) (k : ℕ) (d : List ℕ) → position p xs ≡ None → k < length xs → p (get_or xs k d) ≡ false
none_passes p xs k d e within =
    let past : length xs ≤ position_or_len p xs = grind (arith, common_steps) in
    fails_before_first p xs k d (omega arith)

none_named : (tree : Tree) (name : List ℕ) → target_named tree name ≡ None → (k : ℕ) → slice_get (state_columns tree) k ≢ Some name
unfolding target_named number_of_name
none_named tree name is k at = by_number (number_of_name (state_columns tree) name) refl is
  where
    by_number : (n : Option ℕ) → number_of_name (state_columns tree) name ≡ n → option_and_then (slice_get (state_targets tree)) n ≡ None → ⊥
    by_number None e is =
        let within = slice_get_within (state_columns tree) k name at in
        let here : get_or (state_columns tree) k [] ≡ name = get_or_from_slice_get (state_columns tree) k name [] at in
        let test : bytes_eq name (get_or (state_columns tree) k []) ≡ true = (bytes_eq-Decides name (get_or (state_columns tree) k [])).1 (sym here) in
        let odd : true ≡ false = sym test ∙ none_passes (bytes_eq name) (state_columns tree) k [] e within in
        absurd cc
    by_number (Some n) e is =
        let within = (position-Some (bytes_eq name) (state_columns tree) n [] e).0 in
        let there = slice_get-get_or (state_targets tree) n To.Remark (omega (arith, within, names_counted tree)) in
        let odd : None ≡ Some (get_or (state_targets tree) n To.Remark) = sym is ∙ there in
        absurd cc

among_at : (before : List (List ℕ)) (field : List ℕ) → is_among before field ≡ true → (k : ℕ) × (slice_get before k ≡ Some field)
among_at [] field is = absurd cc
among_at (x ∷ xs) field is = by (among_at xs field) (bytes_eq x field) refl is
  where
    by : (is_among xs field ≡ true → (k : ℕ) × (slice_get xs k ≡ Some field)) → (b : Bool) → bytes_eq x field ≡ b → (b || is_among xs field) ≡ true → (k : ℕ) × (slice_get (x ∷ xs) k ≡ Some field)
    by further true e is = (0, ap Some ((bytes_eq-Decides x field).0 e))
    by further false e is = let found = further is in (suc found.0, found.1)

after_bad : (tree : Tree) (before : List (List ℕ)) (number : ℕ) (field : List ℕ) (fault : HeaderFault) → target_after tree before number field ≡ Err fault
    → (is_remark field ≡ false) × (fault.field ≡ number) × IsBad tree before field fault.kind
after_bad tree before number field fault is = by (is_remark field) refl (target_named tree field) refl (is_among before field) refl is
  where
    by : (remark : Bool) → is_remark field ≡ remark → (found : Option Target) → target_named tree field ≡ found → (among : Bool) → is_among before field ≡ among →
        cond remark (Ok To.Remark) (ok_or found (header_fault UnknownColumn number) >>= λ target. cond among (Err (header_fault ColumnTwice number)) (Ok target)) ≡ Err fault
        → (is_remark field ≡ false) × (fault.field ≡ number) × IsBad tree before field fault.kind
    by true r found e among a is = absurd cc
    by false r None e among a is =
        let same : header_fault UnknownColumn number ≡ fault = cc in
        (r, sym (ap (λ (f : HeaderFault). f.field) same), subst (λ (f : HeaderFault). IsBad tree before field f.kind) same (none_named tree field e))
    by false r (Some x) e true a is =
        let same : header_fault ColumnTwice number ≡ fault = cc in
        (r, sym (ap (λ (f : HeaderFault). f.field) same), subst (λ (f : HeaderFault). IsBad tree before field f.kind) same (among_at before field a))
    by false r (Some x) e false a is = absurd cc

-- a bad field behind others
record BadBehind (tree : Tree) (before fields : List (List ℕ)) (fault : HeaderFault) : Type 0 where
  pub place : ℕ
  pub field : List ℕ
  pub number : fault.field ≡ length before + place + 1
  pub here : slice_get fields place ≡ Some field
  pub plain : is_remark field ≡ false
  pub bad : IsBad tree (before ++ take place fields) field fault.kind
  pub targets : List Target
  pub earlier : AllStand tree before (take place fields) targets

bad_more : (tree : Tree) (before : List (List ℕ)) (field : List ℕ) (fields : List (List ℕ)) (target : Target) (fault : HeaderFault) → Stands tree field target → IsFresh before field
    → BadBehind tree (before ++ field ∷ []) fields fault → BadBehind tree before (field ∷ fields) fault
bad_more tree before field fields target fault stands fresh found = record {
  place = suc found.place;
  field = found.field;
  number = omega (arith, found.number, length-append before (field ∷ []));
  here = found.here;
  plain = found.plain;
  bad = subst (λ earlier. IsBad tree earlier found.field fault.kind) (append_assoc before (field ∷ []) (take found.place fields)) found.bad;
  targets = target ∷ found.targets;
  earlier = stand_more tree before field (take found.place fields) target found.targets stands fresh found.earlier;
}

bad_behind : (tree : Tree) (before fields : List (List ℕ)) (fault : HeaderFault) → targets_after tree before fields ≡ Err fault → BadBehind tree before fields fault
unfolding targets_after
bad_behind tree before [] fault is = absurd cc
bad_behind tree before (field ∷ fields) fault is =
    by (bad_behind tree (before ++ field ∷ []) fields) (target_after tree before (length before + 1) field) refl (targets_after tree (before ++ field ∷ []) fields) refl is
  where
    by : ((other : HeaderFault) → targets_after tree (before ++ field ∷ []) fields ≡ Err other → BadBehind tree (before ++ field ∷ []) fields other) → (one : Result Target HeaderFault)
        → target_after tree before (length before + 1) field ≡ one → (others : Result (List Target) HeaderFault) → targets_after tree (before ++ field ∷ []) fields ≡ others
        → (one >>= λ target. others >>= λ rest. Ok (target ∷ rest)) ≡ Err fault → BadBehind tree before (field ∷ fields) fault
    by further (Err other) e others f is =
        let same : other ≡ fault = cc in
        let found = after_bad tree before (length before + 1) field fault (e ∙ ap Err same) in
        record {
          place = 0;
          field = field;
          number = omega (arith, found.1);
          here = refl;
          plain = found.0;
          bad = subst (λ earlier. IsBad tree earlier field fault.kind) (sym (append-nil before)) found.2;
          targets = [];
          earlier = stand_none tree before;
        }
    by further (Ok target) e (Err other) f is =
        let same : other ≡ fault = cc in
        let one = after_stands tree before (length before + 1) field target e in
        bad_more tree before field fields target fault one.0 one.1 (further fault (f ∙ ap Err same))
    by further (Ok target) e (Ok rest) f is = absurd cc

pub first_bad : HeaderFaultIsFirst
unfolding header_of
first_bad tree line fault is = by (is_utf8 line) refl (fields_in line) refl is
  where
    by : (text : Bool) → is_utf8 line ≡ text → (record_read : Option (List (List ℕ))) → fields_in line ≡ record_read → cond text (targets_of tree record_read) (Err (header_fault BadHeader 0)) ≡ Err fault
        → (((is_utf8 line ≡ false) ⊎ (fields_in line ≡ None)) × (fault ≡ header_fault BadHeader 0)) ⊎ ((fields : List (List ℕ)) × (fields_in line ≡ Some fields) × IsFirstBad tree fields fault)
    by false t r e is = let same : header_fault BadHeader 0 ≡ fault = cc in inl (inl t, sym same)
    by true t None e is = let same : header_fault BadHeader 0 ≡ fault = cc in inl (inr e, sym same)
    by true t (Some fields) e is =
        let found = bad_behind tree [] fields fault is in
        inr (
          fields,
          e,
          record {
            place = found.place;
            field = found.field;
            number = omega (arith, found.number);
            here = found.here;
            plain = found.plain;
            bad = found.bad;
            targets = found.targets;
            earlier = record { count = found.earlier.count; each = found.earlier.each; once = found.earlier.once };
          },
        )
