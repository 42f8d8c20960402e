-- The entries of a joint, and where they stand in a row.
use Rattle.std.proofs.Common.{◌≡◌, ℕ, zero, suc, ◌+◌, ◌-◌, ◌<◌, ◌≤◌, List, [], ◌∷◌, ◌++◌, length, set, take, replicate, Option, None, Some, IfSome, subst, refl, sym, ap, ◌∙◌, add-one, arith}
use Rattle.std.specs.Option.{option_map_or, IsSomeAnd}
use Rattle.rb_num.specs.Interval.{Interval, zero_interval}
use Rattle.rb_flat.specs.Choice.{items_from}
use Rattle.rb_flat.specs.Joint as Kinds
use Rattle.rb_flat.specs.Joint.{Kind, entry_count, column_count}
use Rattle.rb_joint.specs.Any.{kind_of}
use Rattle.rb_tree.specs.declared.robot.Body.{Body}
use Rattle.rb_tree.specs.declared.robot.Mimic.{Mimic}
use Rattle.rb_tree.specs.Columns.{body_at, leader_at, entries_at, own_entries, columns_at, own_columns, start_behind, unless_mimic, mimic_or}
use Rattle.rb_tree.specs.Numbers.{joint_at, mimic_at, no_joint}
use Rattle.rb_tree.specs.Robot.{FollowsMaster}
use Rattle.rb_tree.specs.Places.{padded}

-- ---- lists with zeros behind
pub padded_cons : (n : ℕ) (x : Interval) (xs : List Interval) → padded (suc n) (x ∷ xs) ≡ x ∷ padded n xs
padded_cons n x xs = let e : suc n - suc (length xs) ≡ n - length xs = omega arith in ap (λ d. (x ∷ xs) ++ replicate d zero_interval) e

pub padded_none : (n : ℕ) → padded n [] ≡ replicate n zero_interval
padded_none n = let e : n - length {A = Interval} [] ≡ n = omega arith in ap (λ d. replicate d zero_interval) e

padded_more : (f : ℕ → Interval) (place n k : ℕ) → k < n → set (padded n (items_from f place k)) k (f (place + k)) ≡ padded n (items_from f place (suc k))
padded_more f place zero k h = absurd (omega arith)
padded_more f place (suc n) zero h =
    let e : place + 0 ≡ place = omega arith in
    ap (λ xs. set xs 0 (f (place + 0))) (padded_none (suc n)) ∙ ap (λ p. f p ∷ replicate n zero_interval) e ∙ ap (λ xs. f place ∷ xs) (sym (padded_none n)) ∙ sym (padded_cons n (f place) [])
padded_more f place (suc n) (suc k) h =
    let e : place + suc k ≡ suc place + k = omega arith in
    ap (λ xs. set xs (suc k) (f (place + suc k))) (padded_cons n (f place) (items_from f (suc place) k))
    ∙ ap (λ p. f place ∷ set (padded n (items_from f (suc place) k)) k (f p)) e
    ∙ ap (λ xs. f place ∷ xs) (padded_more f (suc place) n k (omega arith))
    ∙ sym (padded_cons n (f place) (items_from f (suc place) (suc k)))

pub padded_set : (f : ℕ → Interval) (place first k n : ℕ) (xs : List Interval) (x : Interval) → k < n → first ≡ place → xs ≡ padded n (items_from f place k) → x ≡ f (first + k)
    → set xs k x ≡ padded n (items_from f place (k + 1))
padded_set f place first k n xs x h ep e ex =
    let at : x ≡ f (place + k) = ex ∙ ap (λ p. f (p + k)) ep in
    ap (λ ys. set ys k x) e ∙ ap (λ y. set (padded n (items_from f place k)) k y) at ∙ padded_more f place n k h ∙ ap (λ m. padded n (items_from f place m)) (sym (add-one k))

pub take_padded : (n : ℕ) (xs : List Interval) → length xs ≤ n → take (length xs) (padded n xs) ≡ xs
take_padded n [] h = refl
take_padded zero (x ∷ xs) h = absurd (omega arith)
take_padded (suc n) (x ∷ xs) h = ap (take (suc (length xs))) (padded_cons n x xs) ∙ ap (λ ys. x ∷ ys) (take_padded n xs (omega arith))

pub length-items : {A : Type 0} (f : ℕ → A) (place n : ℕ) → length (items_from f place n) ≡ n
length-items f place zero = refl
length-items f place (suc n) = ap suc (length-items f (suc place) n)

-- ---- where they stand
pub leader_own : (bodies : List Body) (i : ℕ) → mimic_at bodies i ≡ None → leader_at bodies i ≡ i
leader_own bodies i h = go (body_at bodies i) h
  where
    go : (o : Option Body) → option_map_or (λ (body : Body). body.mimic) o None ≡ None → option_map_or (λ (body : Body). mimic_or body.mimic i) o i ≡ i
    go None h = refl
    go (Some body) h = ap (λ m. mimic_or m i) h

entries_lead : (o : Option Body) → option_map_or (λ (body : Body). body.mimic) o None ≡ None → option_map_or own_entries o 0 ≡ entry_count (kind_of (option_map_or (λ (body : Body). body.joint) o no_joint))
entries_lead None h = refl
entries_lead (Some body) h = ap (λ m. unless_mimic m (entry_count (kind_of body.joint))) h

-- of a joint that follows no other
pub entries_own : (bodies : List Body) (i : ℕ) → mimic_at bodies i ≡ None → entries_at bodies (leader_at bodies i) ≡ entry_count (kind_of (joint_at bodies i))
entries_own bodies i h = ap (entries_at bodies) (leader_own bodies i h) ∙ entries_lead (body_at bodies i) h

-- of one that does: the one of its master
pub leader_master : (bodies : List Body) (i : ℕ) (mimic : Mimic) → mimic_at bodies i ≡ Some mimic → leader_at bodies i ≡ mimic.master
leader_master bodies i mimic h = go (body_at bodies i) h
  where
    go : (o : Option Body) → option_map_or (λ (body : Body). body.mimic) o None ≡ Some mimic → option_map_or (λ (body : Body). mimic_or body.mimic i) o i ≡ mimic.master
    go None h = absurd cc
    go (Some body) h = ap (λ m. mimic_or m i) h

pub entries_master : (bodies : List Body) (body : Body) (mimic : Mimic) → FollowsMaster bodies body mimic → entries_at bodies mimic.master ≡ 1
entries_master bodies body mimic f =
    ap (λ (o : Option Body). option_map_or own_entries o 0) f.is ∙ ap (λ m. unless_mimic m (entry_count (kind_of f.master.joint))) f.leads ∙ f.master_entry

-- ---- columns: as entries
columns_lead : (o : Option Body) → option_map_or (λ (body : Body). body.mimic) o None ≡ None → option_map_or own_columns o 0 ≡ column_count (kind_of (option_map_or (λ (body : Body). body.joint) o no_joint))
columns_lead None h = refl
columns_lead (Some body) h = ap (λ m. unless_mimic m (column_count (kind_of body.joint))) h

pub columns_own : (bodies : List Body) (i : ℕ) → mimic_at bodies i ≡ None → columns_at bodies (leader_at bodies i) ≡ column_count (kind_of (joint_at bodies i))
columns_own bodies i h = ap (columns_at bodies) (leader_own bodies i h) ∙ columns_lead (body_at bodies i) h

-- a joint with one entry has one column
pub entry_column : (k : Kind) → entry_count k ≡ 1 → column_count k ≡ 1
entry_column Kinds.Fixed h = absurd (omega arith)
entry_column Kinds.Revolute h = refl
entry_column Kinds.Continuous h = refl
entry_column Kinds.Prismatic h = refl
entry_column Kinds.Planar h = absurd (omega arith)
entry_column Kinds.Free h = absurd (omega arith)

pub columns_master : (bodies : List Body) (body : Body) (mimic : Mimic) → FollowsMaster bodies body mimic → columns_at bodies mimic.master ≡ 1
columns_master bodies body mimic f =
    ap (λ (o : Option Body). option_map_or own_columns o 0) f.is ∙ ap (λ m. unless_mimic m (column_count (kind_of f.master.joint))) f.leads ∙ entry_column (kind_of f.master.joint) f.master_entry

-- columns are numbered from 1
pub column_from : (bodies : List Body) (k : ℕ) → 1 ≤ (start_behind bodies k).column
unfolding start_behind
column_from bodies k = omega arith

found_in : (o : Option Body) (P : Body → Type 0) → IsSomeAnd o P → (body : Body) × P body
found_in None P h = absurd h
found_in (Some body) P h = (body, h)

pub columns_followed : (bodies : List Body) (i : ℕ) (mimic : Mimic) (r : Option Mimic) → IsSomeAnd (body_at bodies i) (λ body. IfSome r (FollowsMaster bodies body))
    → r ≡ Some mimic → r ≡ mimic_at bodies i → columns_at bodies (leader_at bodies i) ≡ 1
columns_followed bodies i mimic r h is at =
    let found = found_in (body_at bodies i) (λ body. IfSome r (FollowsMaster bodies body)) h in
    let f : FollowsMaster bodies found.0 mimic = subst (λ m. IfSome m (FollowsMaster bodies found.0)) is found.1 in
    ap (columns_at bodies) (leader_master bodies i mimic (sym at ∙ is)) ∙ columns_master bodies found.0 mimic f
