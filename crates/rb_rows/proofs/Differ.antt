-- The names of the columns of a robot differ.
use Rattle.std.proofs.Common.{◌≡◌, ◌≢◌, ◌<◌, ℕ, zero, suc, List, [], ◌∷◌, ◌++◌, length, get_or, map, flat_map, Bool, true, false, not, ◌&&◌, ◌||◌, Option, Some, None, inl, inr, refl, ◌∙◌, sym, arith, codes, true≢false}
use Rattle.std.specs.Prelude.{slice_get, bytes_eq}
use Rattle.std.specs.List.{AllByRecursion, Any, list_any}
use Rattle.std.proofs.lemmas.List.{append_cancel_left}
use Rattle.std.proofs.lemmas.Slice.Eq.{bytes_eq-Decides}
use Rattle.rb_flat.specs.Joint as Flat
use Rattle.rb_flat.specs.Joint.{Kind}
use Rattle.rb_body.specs.Raw as Raw
use Rattle.rb_tags.specs.Names.{AreDifferent}
use Rattle.rb_tree.specs.declared.robot.Body.{Body}
use Rattle.rb_tree.specs.declared.robot.Mimic.{Mimic}
use Rattle.rb_tree.specs.Names.{entry_suffixes, column_suffixes, entry_names, column_names, HaveCommon}
use Rattle.rb_tree.specs.Robot.{Tree, IsBodyKept, AreBodies}
use Rattle.rb_rows.specs.Columns.{unless_mimic, entries_of, columns_of, entry_columns, columns_behind, state_columns}
use Rattle.rb_rows.proofs.Targets.{all_append, all_get, kind_kept, entries, columns}

-- ---- lists of names that differ
abbrev Apart : List ℕ → List (List ℕ) → Type 0
Apart x ys = AllByRecursion (λ y. x ≢ y) ys

abbrev Differ : List (List ℕ) → Type 0
Differ [] = Unit {0}
Differ (x ∷ xs) = Apart x xs × Differ xs

abbrev AllApart : List (List ℕ) → List (List ℕ) → Type 0
AllApart xs ys = AllByRecursion (λ x. Apart x ys) xs

differ-append : (xs ys : List (List ℕ)) → Differ xs → Differ ys → AllApart xs ys → Differ (xs ++ ys)
differ-append [] ys a b h = b
differ-append (x ∷ xs) ys a b h = (all_append (λ y. x ≢ y) xs ys a.0 h.0, differ-append xs ys a.1 b h.1)

none_apart : (xs : List (List ℕ)) → AllApart xs []
none_apart [] = tt
none_apart (x ∷ xs) = (tt, none_apart xs)

apart-append : (xs ys zs : List (List ℕ)) → AllApart xs ys → AllApart xs zs → AllApart xs (ys ++ zs)
apart-append [] ys zs a b = tt
apart-append (x ∷ xs) ys zs a b = (all_append (λ y. x ≢ y) ys zs a.0 b.0, apart-append xs ys zs a.1 b.1)

apart_at : (x : List ℕ) (ys : List (List ℕ)) (j : ℕ) (d : List ℕ) → Apart x ys → j < length ys → x ≢ get_or ys j d
apart_at x [] j d a h = absurd (omega arith)
apart_at x (y ∷ ys) zero d a h = a.0
apart_at x (y ∷ ys) (suc j) d a h = apart_at x ys j d a.1 (omega arith)

pairs_differ : (xs : List (List ℕ)) → Differ xs → AreDifferent xs
pairs_differ [] a i j d before within = absurd (omega arith)
pairs_differ (x ∷ xs) a i zero d before within = absurd (omega arith)
pairs_differ (x ∷ xs) a zero (suc j) d before within = apart_at x xs j d a.0 (omega arith)
pairs_differ (x ∷ xs) a (suc i) (suc j) d before within = pairs_differ xs a.1 i j d (omega arith) (omega arith)

-- ---- behind one text
apart-behind : (prefix x : List ℕ) (ys : List (List ℕ)) → Apart x ys → Apart (prefix ++ x) (map (λ name. prefix ++ name) ys)
apart-behind prefix x [] a = tt
apart-behind prefix x (y ∷ ys) a = (λ e. a.0 (append_cancel_left prefix x y e), apart-behind prefix x ys a.1)

differ-behind : (prefix : List ℕ) (xs : List (List ℕ)) → Differ xs → Differ (map (λ name. prefix ++ name) xs)
differ-behind prefix [] a = tt
differ-behind prefix (x ∷ xs) a = (apart-behind prefix x xs a.0, differ-behind prefix xs a.1)

-- behind texts that begin with two bytes
module _ (a b : ℕ) (p q : List ℕ) (other : a ≢ b) where
  apart_heads : (x : List ℕ) (ys : List (List ℕ)) → Apart ((a ∷ p) ++ x) (map (λ name. (b ∷ q) ++ name) ys)
  apart_heads x [] = tt
  apart_heads x (y ∷ ys) = (λ e. other (cc), apart_heads x ys)

  heads_apart : (xs ys : List (List ℕ)) → AllApart (map (λ name. (a ∷ p) ++ name) xs) (map (λ name. (b ∷ q) ++ name) ys)
  heads_apart [] ys = tt
  heads_apart (x ∷ xs) ys = (apart_heads x ys, heads_apart xs ys)

-- ---- suffixes
abbrev differ_test : List (List ℕ) → Bool
differ_test [] = true
differ_test (x ∷ xs) = not (list_any (bytes_eq x) xs) && differ_test xs

apart_by_test : (x : List ℕ) (ys : List (List ℕ)) → list_any (bytes_eq x) ys ≡ false → Apart x ys
apart_by_test x [] h = tt
apart_by_test x (y ∷ ys) h =
    let both = parts (bytes_eq x y) (list_any (bytes_eq x) ys) h in
    (λ e. true≢false (sym ((bytes_eq-Decides x y).1 e) ∙ both.0), apart_by_test x ys both.1)
  where
    parts : (a b : Bool) → (a || b) ≡ false → (a ≡ false) × (b ≡ false)
    parts false false h = (refl, refl)
    parts false true h = absurd cc
    parts true b h = absurd cc

differ_by_test : (xs : List (List ℕ)) → differ_test xs ≡ true → Differ xs
differ_by_test [] h = tt
differ_by_test (x ∷ xs) h =
    let both = parts (list_any (bytes_eq x) xs) (differ_test xs) h in
    (apart_by_test x xs both.0, differ_by_test xs both.1)
  where
    parts : (a b : Bool) → (not a && b) ≡ true → (a ≡ false) × (b ≡ true)
    parts false true h = (refl, refl)
    parts false false h = absurd cc
    parts true b h = absurd cc

entry_suffixes_differ : (kind : Kind) → Differ (entry_suffixes kind)
entry_suffixes_differ Flat.Fixed = tt
entry_suffixes_differ Flat.Revolute = differ_by_test (entry_suffixes Flat.Revolute) refl
entry_suffixes_differ Flat.Continuous = differ_by_test (entry_suffixes Flat.Continuous) refl
entry_suffixes_differ Flat.Prismatic = differ_by_test (entry_suffixes Flat.Prismatic) refl
entry_suffixes_differ Flat.Planar = differ_by_test (entry_suffixes Flat.Planar) refl
entry_suffixes_differ Flat.Free = differ_by_test (entry_suffixes Flat.Free) refl

column_suffixes_differ : (kind : Kind) → Differ (column_suffixes kind)
column_suffixes_differ Flat.Fixed = tt
column_suffixes_differ Flat.Revolute = differ_by_test (column_suffixes Flat.Revolute) refl
column_suffixes_differ Flat.Continuous = differ_by_test (column_suffixes Flat.Continuous) refl
column_suffixes_differ Flat.Prismatic = differ_by_test (column_suffixes Flat.Prismatic) refl
column_suffixes_differ Flat.Planar = differ_by_test (column_suffixes Flat.Planar) refl
column_suffixes_differ Flat.Free = differ_by_test (column_suffixes Flat.Free) refl

unless_differ : (mimic : Option Mimic) (names : List (List ℕ)) → Differ names → Differ (unless_mimic mimic names)
unless_differ None names a = a
unless_differ (Some mimic) names a = tt

entries_differ : (body : Body) → Differ (entries_of body)
entries_differ body =
    unless_differ body.mimic (entry_names (Raw.kind_of body.joint_raw.kind) body.joint_name)
    (differ-behind body.joint_name (entry_suffixes (Raw.kind_of body.joint_raw.kind)) (entry_suffixes_differ (Raw.kind_of body.joint_raw.kind)))

columns_differ : (body : Body) → Differ (columns_of body)
columns_differ body =
    unless_differ body.mimic (column_names (Raw.kind_of body.joint_raw.kind) body.joint_name)
    (differ-behind body.joint_name (column_suffixes (Raw.kind_of body.joint_raw.kind)) (column_suffixes_differ (Raw.kind_of body.joint_raw.kind)))

-- ---- of all bodies
apart_none : (x : List ℕ) (ys : List (List ℕ)) → (Any (λ y. x ≡ y) ys → ⊥) → Apart x ys
apart_none x [] h = tt
apart_none x (y ∷ ys) h = (λ e. h (0, y, omega arith, refl, e), apart_none x ys (λ f. h (suc f.0, f.1, omega (arith, f.2), f.3, f.4)))

no_common : (xs ys : List (List ℕ)) → (HaveCommon xs ys → ⊥) → AllApart xs ys
no_common [] ys h = tt
no_common (x ∷ xs) ys h = (apart_none x ys (λ found. h (0, x, omega arith, refl, found)), no_common xs ys (λ f. h (suc f.0, f.1, omega (arith, f.2), f.3, f.4)))

-- no two bodies have a name in common
abbrev Own : (Body → List (List ℕ)) → List Body → Type 0
Own names bodies = (i j : ℕ) (a b : Body) → i ≢ j → slice_get bodies i ≡ Some a → slice_get bodies j ≡ Some b → HaveCommon (names a) (names b) → ⊥

module _ (names : Body → List (List ℕ)) where
  apart_bodies : (xs : List (List ℕ)) (bodies : List Body) → ((k : ℕ) (body : Body) → slice_get bodies k ≡ Some body → HaveCommon xs (names body) → ⊥) → AllApart xs (flat_map names bodies)
  apart_bodies xs [] h = none_apart xs
  apart_bodies xs (body ∷ rest) h =
      apart-append xs (names body) (flat_map names rest) (no_common xs (names body) (h 0 body refl)) (apart_bodies xs rest (λ k other e. h (suc k) other e))

  differ_bodies : (bodies : List Body) → ((body : Body) → Differ (names body)) → Own names bodies → Differ (flat_map names bodies)
  differ_bodies [] each own = tt
  differ_bodies (body ∷ rest) each own =
      differ-append (names body) (flat_map names rest) (each body)
      (differ_bodies rest each (λ i j a b apart at other. own (suc i) (suc j) a b (λ e. apart (omega (arith, e))) at other))
      (apart_bodies (names body) rest (λ k other e. own 0 (suc k) body other (λ e. absurd (omega (arith, e))) refl e))

common_led : (a b : Option Mimic) (xs ys : List (List ℕ)) → HaveCommon (unless_mimic a xs) (unless_mimic b ys) → (a ≡ None) × (b ≡ None) × HaveCommon xs ys
common_led (Some mimic) b xs ys h = absurd (omega (arith, h.2))
common_led None (Some mimic) xs ys h = absurd (omega (arith, h.4.2))
common_led None None xs ys h = (refl, refl, h)

module _ (bodies : List Body) (kept : AreBodies bodies) where
  own_entries : Own entries_of bodies
  own_entries i j a b apart at other h =
      let led = common_led a.mimic b.mimic _ _ h in
      let one = kind_kept a (all_get IsBodyKept bodies i a kept.kept at) in
      let two = kind_kept b (all_get IsBodyKept bodies j b kept.kept other) in
      kept.names (suc i) (suc j) a b (λ e. apart (omega (arith, e))) at other led.0 led.1 (inl (rw (one, two) led.2))

  own_columns : Own columns_of bodies
  own_columns i j a b apart at other h =
      let led = common_led a.mimic b.mimic _ _ h in
      let one = kind_kept a (all_get IsBodyKept bodies i a kept.kept at) in
      let two = kind_kept b (all_get IsBodyKept bodies j b kept.kept other) in
      kept.names (suc i) (suc j) a b (λ e. apart (omega (arith, e))) at other led.0 led.1 (inr (rw (one, two) led.2))

-- ---- of a state
pub columns_are_different : (tree : Tree) → AreBodies tree.bodies → AreDifferent (state_columns tree)
unfolding state_columns
columns_are_different tree kept =
    let es = entries tree in
    let cs = columns tree in
    let entry = differ_bodies entries_of tree.bodies entries_differ (own_entries tree.bodies kept) in
    let column = differ_bodies columns_of tree.bodies columns_differ (own_columns tree.bodies kept) in
    let q = entry_columns tree in
    let v = columns_behind (codes "v.") tree in
    let a = columns_behind (codes "a.") tree in
    let tau = columns_behind (codes "tau.") tree in
    let qs : Differ q = differ-behind (codes "q.") es entry in
    let vs : Differ v = differ-behind (codes "v.") cs column in
    let accs : Differ a = differ-behind (codes "a.") cs column in
    let taus : Differ tau = differ-behind (codes "tau.") cs column in
    let qv : AllApart q v = heads_apart 113 118 (46 ∷ []) (46 ∷ []) (λ e. absurd (omega (arith, e))) es cs in
    let qa : AllApart q a = heads_apart 113 97 (46 ∷ []) (46 ∷ []) (λ e. absurd (omega (arith, e))) es cs in
    let va : AllApart v a = heads_apart 118 97 (46 ∷ []) (46 ∷ []) (λ e. absurd (omega (arith, e))) cs cs in
    let qt : AllApart q tau = heads_apart 113 116 (46 ∷ []) (codes "au.") (λ e. absurd (omega (arith, e))) es cs in
    let vt : AllApart v tau = heads_apart 118 116 (46 ∷ []) (codes "au.") (λ e. absurd (omega (arith, e))) cs cs in
    let at : AllApart a tau = heads_apart 97 116 (46 ∷ []) (codes "au.") (λ e. absurd (omega (arith, e))) cs cs in
    let apart = λ (xs ys zs : List (List ℕ)) (one : AllApart xs zs) (two : AllApart ys zs). all_append (λ x. Apart x zs) xs ys one two in
    pairs_differ (q ++ v ++ a ++ tau)
    (differ-append (q ++ v ++ a) tau (differ-append (q ++ v) a (differ-append q v qs vs qv) accs (apart q v a qa va)) taus
    (apart (q ++ v) a tau (apart q v tau qt vt) at))
