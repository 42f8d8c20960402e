-- What the numbers of a state are, and that a state that fits has a place for each.
use Rattle.std.proofs.Common.{◌≡◌, ◌<◌, ◌≤◌, ◌+◌, ℕ, zero, suc, List, [], ◌∷◌, ◌++◌, length, flat_map, Bool, true, false, cond, Option, Some, None, Result, Ok, Err, refl, ◌∙◌, ap, sym, subst, arith, append_assoc, codes}
use Rattle.std.specs.Prelude.{slice_get, option_and_then, bytes_eq}
use Rattle.std.specs.List.{AllByRecursion}
use Rattle.std.specs.Option.{ok_or}
use Rattle.std.proofs.lemmas.List.{length-append, length-map}
use Rattle.std.proofs.lemmas.List.Sums.{sum_by-cons}
use Rattle.std.proofs.lemmas.List.Quantifiers.{position-Some}
use Rattle.rb_result.specs.Steps.{◌>>=◌}
use Rattle.rb_flat.specs.Joint as Flat
use Rattle.rb_flat.specs.Joint.{Kind}
use Rattle.rb_joint.specs.Any as Model
use Rattle.rb_body.specs.Raw as Raw
use Rattle.rb_body.proofs.Models.{joint_answer}
use Rattle.rb_tags.specs.Names.{number_of_name}
use Rattle.rb_tree.specs.declared.robot.Body.{Body}
use Rattle.rb_tree.specs.declared.robot.Mimic.{Mimic}
use Rattle.rb_tree.specs.Columns.{own_entries, own_columns, entry_count, column_count}
use Rattle.rb_tree.specs.Columns as Tree
use Rattle.rb_tree.specs.Names.{entry_names, column_names}
use Rattle.rb_tree.specs.Robot.{Tree, IsBodyKept, AreBodies}
use Rattle.rb_tree.specs.State.{Row, Fits}
use Rattle.rb_rows.specs.declared.faults.HeaderFault.{HeaderFault}
use Rattle.rb_rows.specs.declared.faults.HeaderKind.TheVariants.{UnknownColumn, ColumnTwice}
use Rattle.rb_rows.specs.declared.header.Target.{Target}
use Rattle.rb_rows.specs.declared.header.Target.TheVariants as To
use Rattle.rb_rows.specs.Faults.{header_fault}
use Rattle.rb_rows.specs.Columns.{unless_mimic, behind, entries_of, columns_of, entry_columns, columns_behind, state_columns, numbered, state_targets}
use Rattle.rb_rows.specs.Header.{is_remark, is_among, target_named, target_after, targets_after, HasPlace, HasPlaces}

-- ---- lists
pub get_left : {A : Type 0} (xs ys : List A) (k : ℕ) → k < length xs → slice_get (xs ++ ys) k ≡ slice_get xs k
get_left [] ys k h = absurd (omega arith)
get_left (x ∷ xs) ys zero h = refl
get_left (x ∷ xs) ys (suc k) h = get_left xs ys k (omega arith)

pub get_right : {A : Type 0} (xs ys : List A) (k n : ℕ) → n ≡ length xs + k → slice_get (xs ++ ys) n ≡ slice_get ys k
get_right [] ys k n e = let same : n ≡ k = omega (arith, e) in ap (slice_get ys) same
get_right (x ∷ xs) ys k zero e = absurd (omega (arith, e))
get_right (x ∷ xs) ys k (suc n) e = get_right xs ys k n (omega (arith, e))

pub all_get : {A : Type 0} (P : A → Type 0) (xs : List A) (k : ℕ) (x : A) → AllByRecursion P xs → slice_get xs k ≡ Some x → P x
all_get P [] k x all is = absurd cc
all_get P (y ∷ ys) zero x all is = let same : y ≡ x = cc in subst P same all.0
all_get P (y ∷ ys) (suc k) x all is = all_get P ys k x all.1 is

pub all_append : {A : Type 0} (P : A → Type 0) (xs ys : List A) → AllByRecursion P xs → AllByRecursion P ys → AllByRecursion P (xs ++ ys)
all_append P [] ys a b = b
all_append P (x ∷ xs) ys a b = (a.0, all_append P xs ys a.1 b)

module _ {A : Type 0} (to : ℕ → Target) where
  pub numbered-get : (place : ℕ) (xs : List A) (k n : ℕ) → k < length xs → n ≡ place + k → slice_get (numbered to place xs) k ≡ Some (to n)
  numbered-get place [] k n h e = absurd (omega arith)
  numbered-get place (x ∷ xs) zero n h e = let same : place ≡ n = omega (arith, e) in ap (λ p. Some (to p)) same
  numbered-get place (x ∷ xs) (suc k) n h e = numbered-get (place + 1) xs k n (omega arith) (omega (arith, e))

  pub length-numbered : (place : ℕ) (xs : List A) → length (numbered to place xs) ≡ length xs
  length-numbered place [] = refl
  length-numbered place (x ∷ xs) = ap suc (length-numbered (place + 1) xs)

  pub all_numbered : (P : Target → Type 0) (place count : ℕ) (xs : List A) → place + length xs ≤ count → ((k : ℕ) → k < count → P (to k)) → AllByRecursion P (numbered to place xs)
  all_numbered P place count [] h f = tt
  all_numbered P place count (x ∷ xs) h f = (f place (omega arith), all_numbered P (place + 1) count xs (omega arith) f)

-- ---- counts
-- a joint's model is of the kind of its numbers
pub kind_kept : (body : Body) → IsBodyKept body → Model.kind_of body.joint ≡ Raw.kind_of body.joint_raw.kind
kind_kept body kept = (joint_answer body.joint_raw.kind body.joint_raw.xyz body.joint_raw.rpy body.joint_raw.axis (body.joint, body.joint_raw) kept.joint).kind

entries_of_kind : (mimic : Option Mimic) (kind : Kind) (name : List ℕ) → length (unless_mimic mimic (entry_names kind name)) ≡ Tree.unless_mimic mimic (Flat.entry_count kind)
entries_of_kind (Some mimic) kind name = refl
entries_of_kind None Flat.Fixed name = refl
entries_of_kind None Flat.Revolute name = refl
entries_of_kind None Flat.Continuous name = refl
entries_of_kind None Flat.Prismatic name = refl
entries_of_kind None Flat.Planar name = refl
entries_of_kind None Flat.Free name = refl

columns_of_kind : (mimic : Option Mimic) (kind : Kind) (name : List ℕ) → length (unless_mimic mimic (column_names kind name)) ≡ Tree.unless_mimic mimic (Flat.column_count kind)
columns_of_kind (Some mimic) kind name = refl
columns_of_kind None Flat.Fixed name = refl
columns_of_kind None Flat.Revolute name = refl
columns_of_kind None Flat.Continuous name = refl
columns_of_kind None Flat.Prismatic name = refl
columns_of_kind None Flat.Planar name = refl
columns_of_kind None Flat.Free name = refl

entries_own : (body : Body) → IsBodyKept body → length (entries_of body) ≡ own_entries body
entries_own body kept =
    entries_of_kind body.mimic (Raw.kind_of body.joint_raw.kind) body.joint_name ∙ ap (λ kind. Tree.unless_mimic body.mimic (Flat.entry_count kind)) (sym (kind_kept body kept))

columns_own : (body : Body) → IsBodyKept body → length (columns_of body) ≡ own_columns body
columns_own body kept =
    columns_of_kind body.mimic (Raw.kind_of body.joint_raw.kind) body.joint_name ∙ ap (λ kind. Tree.unless_mimic body.mimic (Flat.column_count kind)) (sym (kind_kept body kept))

pub entries_counted : (bodies : List Body) → AllByRecursion IsBodyKept bodies → length (flat_map entries_of bodies) ≡ entry_count bodies
entries_counted [] kept = refl
entries_counted (body ∷ rest) kept =
    length-append (entries_of body) (flat_map entries_of rest) ∙ ap (λ n. n + length (flat_map entries_of rest)) (entries_own body kept.0)
    ∙ ap (λ n. own_entries body + n) (entries_counted rest kept.1) ∙ sym (sum_by-cons own_entries body rest)

pub columns_counted : (bodies : List Body) → AllByRecursion IsBodyKept bodies → length (flat_map columns_of bodies) ≡ column_count bodies
columns_counted [] kept = refl
columns_counted (body ∷ rest) kept =
    length-append (columns_of body) (flat_map columns_of rest) ∙ ap (λ n. n + length (flat_map columns_of rest)) (columns_own body kept.0)
    ∙ ap (λ n. own_columns body + n) (columns_counted rest kept.1) ∙ sym (sum_by-cons own_columns body rest)

-- ---- the numbers of a state
abbrev pub entries : Tree → List (List ℕ)
entries tree = flat_map entries_of tree.bodies

abbrev pub columns : Tree → List (List ℕ)
columns tree = flat_map columns_of tree.bodies

abbrev pub part : (ℕ → Target) → List (List ℕ) → List Target
part to names = numbered to 0 names

module _ (tree : Tree) where
  abbrev pub last_two : List Target
  last_two = part To.Acceleration (columns tree) ++ part To.Torque (columns tree)

  abbrev pub last_three : List Target
  last_three = part To.Speed (columns tree) ++ last_two

  pub in_parts : state_targets tree ≡ part To.Entry (entries tree) ++ last_three
  unfolding state_targets
  in_parts = simp append_assoc

  pub entry_at : (k : ℕ) → k < length (entries tree) → slice_get (state_targets tree) k ≡ Some (To.Entry k)
  entry_at k h =
      ap (λ xs. slice_get xs k) in_parts ∙ get_left (part To.Entry (entries tree)) last_three k (subst (λ n. k < n) (sym (length-numbered To.Entry 0 (entries tree))) h)
      ∙ numbered-get To.Entry 0 (entries tree) k k h (omega arith)

  behind_entries : (k n : ℕ) → n ≡ length (entries tree) + k → slice_get (state_targets tree) n ≡ slice_get last_three k
  behind_entries k n e =
      ap (λ xs. slice_get xs n) in_parts ∙ get_right (part To.Entry (entries tree)) last_three k n (e ∙ ap (λ m. m + k) (sym (length-numbered To.Entry 0 (entries tree))))

  behind_speeds : (k n : ℕ) → n ≡ length (columns tree) + k → slice_get last_three n ≡ slice_get last_two k
  behind_speeds k n e = get_right (part To.Speed (columns tree)) last_two k n (e ∙ ap (λ m. m + k) (sym (length-numbered To.Speed 0 (columns tree))))

  behind_accelerations : (k n : ℕ) → n ≡ length (columns tree) + k → slice_get last_two n ≡ slice_get (part To.Torque (columns tree)) k
  behind_accelerations k n e = get_right (part To.Acceleration (columns tree)) (part To.Torque (columns tree)) k n (e ∙ ap (λ m. m + k) (sym (length-numbered To.Acceleration 0 (columns tree))))

  pub speed_at : (k n : ℕ) → n ≡ length (entries tree) + k → k < length (columns tree) → slice_get (state_targets tree) n ≡ Some (To.Speed k)
  speed_at k n e h =
      behind_entries k n e ∙ get_left (part To.Speed (columns tree)) last_two k (subst (λ m. k < m) (sym (length-numbered To.Speed 0 (columns tree))) h)
      ∙ numbered-get To.Speed 0 (columns tree) k k h (omega arith)

  pub acceleration_at : (k n : ℕ) → n ≡ length (entries tree) + (length (columns tree) + k) → k < length (columns tree) → slice_get (state_targets tree) n ≡ Some (To.Acceleration k)
  acceleration_at k n e h =
      behind_entries (length (columns tree) + k) n e ∙ behind_speeds k (length (columns tree) + k) refl
      ∙ get_left (part To.Acceleration (columns tree)) (part To.Torque (columns tree)) k (subst (λ m. k < m) (sym (length-numbered To.Acceleration 0 (columns tree))) h)
      ∙ numbered-get To.Acceleration 0 (columns tree) k k h (omega arith)

  pub torque_at : (k n : ℕ) → n ≡ length (entries tree) + (length (columns tree) + (length (columns tree) + k)) → k < length (columns tree) →
      slice_get (state_targets tree) n ≡ Some (To.Torque k)
  torque_at k n e h =
      behind_entries (length (columns tree) + (length (columns tree) + k)) n e ∙ behind_speeds (length (columns tree) + k) (length (columns tree) + (length (columns tree) + k)) refl
      ∙ behind_accelerations k (length (columns tree) + k) refl ∙ numbered-get To.Torque 0 (columns tree) k k h (omega arith)

  pub targets_counted : length (state_targets tree) ≡ length (entries tree) + (length (columns tree) + (length (columns tree) + length (columns tree)))
  targets_counted =
      let whole = ap length in_parts in
      let a = length-append (part To.Entry (entries tree)) last_three in
      let b = length-append (part To.Speed (columns tree)) last_two in
      let c = length-append (part To.Acceleration (columns tree)) (part To.Torque (columns tree)) in
      let e = length-numbered To.Entry 0 (entries tree) in
      let s = length-numbered To.Speed 0 (columns tree) in
      let d = length-numbered To.Acceleration 0 (columns tree) in
      let t = length-numbered To.Torque 0 (columns tree) in
      omega (arith, whole, a, b, c, e, s, d, t)

  pub names_counted : length (state_columns tree) ≡ length (state_targets tree)
  unfolding state_columns
  names_counted =
      let q = entry_columns tree in
      let v = columns_behind (codes "v.") tree in
      let a = columns_behind (codes "a.") tree in
      let tau = columns_behind (codes "tau.") tree in
      let whole = length-append (q ++ v ++ a) tau in
      let three = length-append (q ++ v) a in
      let two = length-append q v in
      let size : (prefix : List ℕ) (names : List (List ℕ)) → length (behind prefix names) ≡ length names = λ prefix names. length-map names (λ name. prefix ++ name) in
      let qs = size (codes "q.") (entries tree) in
      let vs = size (codes "v.") (columns tree) in
      let accs = size (codes "a.") (columns tree) in
      let taus = size (codes "tau.") (columns tree) in
      omega (arith, whole, three, two, targets_counted, qs, vs, accs, taus)

-- ---- places
all_places : (tree : Tree) (row : Row) → AllByRecursion IsBodyKept tree.bodies → Fits tree row → AllByRecursion (HasPlace row) (state_targets tree)
all_places tree row kept fits =
    let count = entries_counted tree.bodies kept in
    let column = columns_counted tree.bodies kept in
    subst (AllByRecursion (HasPlace row)) (sym (in_parts tree)) (all_append (HasPlace row) _ _ (all_numbered To.Entry (HasPlace row) 0 (length row.q) (entries tree) (omega (arith, count, fits.q)) (λ k h. h))
    (all_append (HasPlace row) _ _ (all_numbered To.Speed (HasPlace row) 0 (length row.v) (columns tree) (omega (arith, column, fits.v)) (λ k h. h))
    (all_append (HasPlace row) _ _ (all_numbered To.Acceleration (HasPlace row) 0 (length row.a) (columns tree) (omega (arith, column, fits.a)) (λ k h. h))
    (all_numbered To.Torque (HasPlace row) 0 (length row.tau) (columns tree) (omega (arith, column, fits.tau)) (λ k h. h)))))

module _ (tree : Tree) (row : Row) (all : AllByRecursion (HasPlace row) (state_targets tree)) where
  named_place : (name : List ℕ) (t : Target) → target_named tree name ≡ Some t → HasPlace row t
  unfolding target_named
  named_place name t is = by_number (number_of_name (state_columns tree) name) is
    where
      by_number : (n : Option ℕ) → option_and_then (slice_get (state_targets tree)) n ≡ Some t → HasPlace row t
      by_number None is = absurd cc
      by_number (Some n) is = all_get (HasPlace row) (state_targets tree) n t all is

  target_place : (before : List (List ℕ)) (number : ℕ) (field : List ℕ) (t : Target) → target_after tree before number field ≡ Ok t → HasPlace row t
  target_place before number field t is = by_remark (is_remark field) (target_named tree field) refl (is_among before field) is
    where
      by_remark : (remark : Bool) (found : Option Target) → target_named tree field ≡ found → (among : Bool) →
          cond remark (Ok To.Remark) (ok_or found (header_fault UnknownColumn number) >>= λ target. cond among (Err (header_fault ColumnTwice number)) (Ok target)) ≡ Ok t → HasPlace row t
      by_remark true found e among is = let same : To.Remark ≡ t = cc in subst (HasPlace row) same tt
      by_remark false None e among is = absurd cc
      by_remark false (Some x) e true is = absurd cc
      by_remark false (Some x) e false is = let same : x ≡ t = cc in named_place field t (e ∙ ap Some same)

  pub places_after : (before fields : List (List ℕ)) (targets : List Target) → targets_after tree before fields ≡ Ok targets → AllByRecursion (HasPlace row) targets
  unfolding targets_after
  places_after before [] targets is = let same : [] ≡ targets = cc in subst (AllByRecursion (HasPlace row)) same tt
  places_after before (field ∷ fields) targets is =
      by_target (places_after (before ++ field ∷ []) fields) (target_after tree before (length before + 1) field) refl (targets_after tree (before ++ field ∷ []) fields) refl is
    where
      by_target : ((rest : List Target) → targets_after tree (before ++ field ∷ []) fields ≡ Ok rest → AllByRecursion (HasPlace row) rest) → (one : Result Target HeaderFault) → target_after tree before (length before + 1) field ≡ one →
          (others : Result (List Target) HeaderFault) → targets_after tree (before ++ field ∷ []) fields ≡ others →
          (one >>= λ target. others >>= λ rest. Ok (target ∷ rest)) ≡ Ok targets → AllByRecursion (HasPlace row) targets
      by_target further (Err fault) e others f is = absurd cc
      by_target further (Ok target) e (Err fault) f is = absurd cc
      by_target further (Ok target) e (Ok rest) f is =
          let same : target ∷ rest ≡ targets = cc in
          subst (AllByRecursion (HasPlace row)) same (target_place before (length before + 1) field target e, further rest f)

-- a state that fits the robot has a place for what each field stands for
pub header_places : (tree : Tree) (row : Row) (fields : List (List ℕ)) (targets : List Target) → AreBodies tree.bodies → Fits tree row → targets_after tree [] fields ≡ Ok targets →
    HasPlaces targets row
header_places tree row fields targets kept fits is = places_after tree row (all_places tree row kept.kept fits) [] fields targets is

-- ---- the target of a name
pub number_within : (tree : Tree) (name : List ℕ) (n : ℕ) → Some n ≡ number_of_name (state_columns tree) name → n < length (state_targets tree)
unfolding number_of_name
number_within tree name n is = omega (arith, (position-Some (bytes_eq name) (state_columns tree) n [] (sym is)).0, names_counted tree)

pub target_numbered : (tree : Tree) (name : List ℕ) (n : ℕ) (t : Target) → Some n ≡ number_of_name (state_columns tree) name → slice_get (state_targets tree) n ≡ Some t → Some t ≡ target_named tree name
unfolding target_named
target_numbered tree name n t is at = sym at ∙ ap (option_and_then (slice_get (state_targets tree))) is

pub no_target : (tree : Tree) (name : List ℕ) → None ≡ number_of_name (state_columns tree) name → None ≡ target_named tree name
unfolding target_named
no_target tree name is = ap (option_and_then (slice_get (state_targets tree))) is
