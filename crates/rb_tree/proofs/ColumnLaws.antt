-- The columns of lists of bodies, body by body.
use Rattle.std.proofs.Common.{◌≡◌, ℕ, zero, suc, ◌+◌, ◌-◌, ◌<◌, ◌≤◌, ◌==◌, ◌*◌, nat_lt, if◌then◌else◌, Bool, true, false, cond, List, [], ◌∷◌, ◌++◌, length, take, replicate, Option, None, Some, refl, sym, ◌∙◌, ap, subst, arith, get_or, add-one, add-zero, append_assoc, append-nil}
use Rattle.std.specs.List.{slice_get, sum_by}
use Rattle.std.specs.Option.{option_map_or}
use Rattle.std.proofs.lemmas.List.{length-append, length-replicate, take_all}
use Rattle.std.proofs.lemmas.List.Sums.{sum_by-cons}
use Rattle.std.proofs.lemmas.Option.{get_or_from_slice_get}
use Rattle.std.proofs.lemmas.Bool.Decides.{nat_tests}
use Rattle.rb_flat.specs.Joint as Flat
use Rattle.rb_flat.specs.Joint.{Kind}
use Rattle.rb_joint.specs.Any.{kind_of}
use Rattle.rb_tree.specs.declared.robot.Body.{Body}
use Rattle.rb_tree.specs.declared.robot.Mimic.{Mimic}
use Rattle.rb_tree.specs.declared.columns.Start.{Start}
use Rattle.rb_tree.specs.Columns.{full_columns, own_columns, own_entries, unless_mimic, start_behind, body_at, parent_at, columns_at, owners_from, nearest_within, nearest_column, body_of_column, up_of, has_mimic, AreStarts}
use Rattle.rb_tree.proofs.ListLaws.{IsListOf-get}

-- ---- sums of the first bodies
pub few_columns : (k : Kind) → Flat.column_count k ≤ 6
few_columns Flat.Fixed = omega arith
few_columns Flat.Revolute = omega arith
few_columns Flat.Continuous = omega arith
few_columns Flat.Prismatic = omega arith
few_columns Flat.Planar = omega arith
few_columns Flat.Free = omega arith

pub few_entries : (k : Kind) → Flat.entry_count k ≤ 7
few_entries Flat.Fixed = omega arith
few_entries Flat.Revolute = omega arith
few_entries Flat.Continuous = omega arith
few_entries Flat.Prismatic = omega arith
few_entries Flat.Planar = omega arith
few_entries Flat.Free = omega arith

unless_le : (m : Option Mimic) (n most : ℕ) → n ≤ most → unless_mimic m n ≤ most
unless_le None n most h = h
unless_le (Some m) n most h = omega arith

pub sum_cons : (f : Body → ℕ) (b : Body) (bodies : List Body) (k : ℕ) → sum_by f (take (suc k) (b ∷ bodies)) ≡ f b + sum_by f (take k bodies)
sum_cons f b bodies k = sum_by-cons f b (take k bodies)

-- a sum of at most 7 for each of k
sum_small : (f : Body → ℕ) → ((b : Body) → f b ≤ 7) → (bodies : List Body) (k : ℕ) → sum_by f (take k bodies) ≤ 7 * k
sum_small f few [] zero = omega arith
sum_small f few [] (suc k) = omega arith
sum_small f few (b ∷ bodies) zero = omega arith
sum_small f few (b ∷ bodies) (suc k) = omega (arith, few b, sum_cons f b bodies k, sum_small f few bodies k)

pub full_small : (bodies : List Body) (k : ℕ) → (start_behind bodies k).full ≤ 1 + 7 * k
unfolding start_behind
full_small bodies k = omega (arith, sum_small full_columns (λ b. omega (arith, few_columns (kind_of b.joint))) bodies k)

pub column_small : (bodies : List Body) (k : ℕ) → (start_behind bodies k).column ≤ 1 + 7 * k
unfolding start_behind
column_small bodies k = omega (arith, sum_small own_columns (λ b. unless_le b.mimic _ 7 (omega (arith, few_columns (kind_of b.joint)))) bodies k)

pub entry_small : (bodies : List Body) (k : ℕ) → (start_behind bodies k).entry ≤ 7 * k
unfolding start_behind
entry_small bodies k = sum_small own_entries (λ b. unless_le b.mimic _ 7 (few_entries (kind_of b.joint))) bodies k

-- at most two entries for each column
two_each : (k : Kind) → Flat.entry_count k ≤ 2 * Flat.column_count k
two_each Flat.Fixed = omega arith
two_each Flat.Revolute = omega arith
two_each Flat.Continuous = omega arith
two_each Flat.Prismatic = omega arith
two_each Flat.Planar = omega arith
two_each Flat.Free = omega arith

unless_two : (m : Option Mimic) (entries columns : ℕ) → entries ≤ 2 * columns → unless_mimic m entries ≤ 2 * unless_mimic m columns
unless_two None entries columns h = h
unless_two (Some m) entries columns h = omega arith

pub entries_by_columns : (bodies : List Body) → sum_by own_entries bodies ≤ 2 * sum_by own_columns bodies
entries_by_columns [] = omega arith
entries_by_columns (b ∷ bodies) =
    omega (arith, unless_two b.mimic _ _ (two_each (kind_of b.joint)), entries_by_columns bodies, sum_by-cons own_entries b bodies, sum_by-cons own_columns b bodies)

-- the sum of one more
pub sum_more : (f : Body → ℕ) (bodies : List Body) (k : ℕ) (b : Body) → slice_get bodies k ≡ Some b → sum_by f (take (suc k) bodies) ≡ sum_by f (take k bodies) + f b
sum_more f [] k b h = cc
sum_more f (x ∷ bodies) zero b h = let e : x ≡ b = cc in omega (arith, sum_cons f x bodies 0, ap f e)
sum_more f (x ∷ bodies) (suc k) b h = omega (arith, sum_cons f x bodies (suc k), sum_cons f x bodies k, sum_more f bodies k b h)

pub start_first : (bodies : List Body) → start_behind bodies 0 ≡ record { full = 1; column = 1; entry = 0 }
unfolding start_behind
start_first bodies = refl

pub start_next : (bodies : List Body) (k : ℕ) (b : Body) (s : Start) → slice_get bodies k ≡ Some b → s ≡ start_behind bodies k →
    record { full = s.full + full_columns b; column = s.column + own_columns b; entry = s.entry + own_entries b } ≡ start_behind bodies (k + 1)
unfolding start_behind
start_next bodies k b s h e =
    let f = sum_more full_columns bodies k b h in
    let c = sum_more own_columns bodies k b h in
    let n = sum_more own_entries bodies k b h in
    let x : s.full + full_columns b ≡ 1 + sum_by full_columns (take (suc k) bodies) = omega (arith, ap (λ (s : Start). s.full) e, f) in
    let y : s.column + own_columns b ≡ 1 + sum_by own_columns (take (suc k) bodies) = omega (arith, ap (λ (s : Start). s.column) e, c) in
    let z : s.entry + own_entries b ≡ sum_by own_entries (take (suc k) bodies) = omega (arith, ap (λ (s : Start). s.entry) e, n) in
    rw add-one cc

-- ---- the bodies of the columns
pub owners_more : (n : ℕ) (bodies : List Body) (k : ℕ) (b : Body) → slice_get bodies k ≡ Some b →
    owners_from n (take (suc k) bodies) ≡ owners_from n (take k bodies) ++ replicate (own_columns b) (n + k)
owners_more n [] k b h = cc
owners_more n (x ∷ bodies) zero b h = let e : x ≡ b = cc in rw (e, add-zero) (append-nil (replicate (own_columns b) n))
owners_more n (x ∷ bodies) (suc k) b h =
    let e : (n + 1) + k ≡ n + suc k = omega arith in
    ap (λ (r : List ℕ). replicate (own_columns x) n ++ r) (owners_more (n + 1) bodies k b h) ∙ (rw e (sym (append_assoc (replicate (own_columns x) n) (owners_from (n + 1) (take k bodies)) (replicate (own_columns b) (n + suc k)))))

pub length-owners : (n : ℕ) (bodies : List Body) → length (owners_from n bodies) ≡ sum_by own_columns bodies
length-owners n [] = refl
length-owners n (b ∷ bodies) =
    let e : length (owners_from n (b ∷ bodies)) ≡ length (replicate (own_columns b) n) + length (owners_from (n + 1) bodies) = length-append _ _ in
    omega (arith, e, length-replicate (own_columns b) n, length-owners (n + 1) bodies, sum_by-cons own_columns b bodies)

-- a body's number is that of one of them
pub record IsOwner (first count owner : ℕ) : Type 0 where
  pub from : first ≤ owner
  pub to : owner < first + count

abbrev AreOwners : List ℕ → ℕ → ℕ → Type 0
AreOwners [] first count = Unit {0}
AreOwners (x ∷ xs) first count = IsOwner first count x × AreOwners xs first count

owner_behind : (xs ys : List ℕ) (first count owner k : ℕ) → slice_get (xs ++ ys) k ≡ Some owner → AreOwners xs first count → ((j : ℕ) → slice_get ys j ≡ Some owner → IsOwner first count owner) → IsOwner first count owner
owner_behind [] ys first count owner k h a b = b k h
owner_behind (x ∷ xs) ys first count owner zero h a b = let e : x ≡ owner = cc in let P : ℕ → Type 0 = IsOwner first count in subst P e a.0
owner_behind (x ∷ xs) ys first count owner (suc k) h a b = owner_behind xs ys first count owner k h a.1 b

copies_in : (copies n first count : ℕ) → IsOwner first count n → AreOwners (replicate copies n) first count
copies_in zero n first count h = tt
copies_in (suc copies) n first count h = (h, copies_in copies n first count h)

pub owner_in : (n : ℕ) (bodies : List Body) (k owner : ℕ) → slice_get (owners_from n bodies) k ≡ Some owner → IsOwner n (length bodies) owner
owner_in n [] k owner h = cc
owner_in n (b ∷ bodies) k owner h =
    owner_behind (replicate (own_columns b) n) (owners_from (n + 1) bodies) n (suc (length bodies)) owner k h
    (copies_in (own_columns b) n n (suc (length bodies)) (record { from = omega arith; to = omega arith }))
    (λ j g. let o = owner_in (n + 1) bodies j owner g in record { from = omega (arith, o.from); to = omega (arith, o.to) })

-- ---- the nearest columns
pub nearest_at_world : (bodies : List Body) (steps : ℕ) → nearest_within steps bodies 0 ≡ 0
unfolding nearest_within
nearest_at_world bodies zero = refl
nearest_at_world bodies (suc steps) = nearest_at_world bodies steps

pub nearest_open : (bodies : List Body) (steps i : ℕ) → nearest_within (suc steps) bodies i ≡ cond (columns_at bodies i == 0) (nearest_within steps bodies (parent_at bodies i)) (sum_by own_columns (take i bodies))
unfolding nearest_within
nearest_open bodies steps i = refl

-- any number of steps that is at least i gives the same
pub nearest_enough : (bodies : List Body) → ((i : ℕ) → 1 ≤ i → parent_at bodies i < i) → (s t i : ℕ) → i ≤ s → i ≤ t → nearest_within s bodies i ≡ nearest_within t bodies i
nearest_enough bodies below zero t i h k = let e : i ≡ 0 = omega arith in rw e (nearest_at_world bodies 0 ∙ sym (nearest_at_world bodies t))
nearest_enough bodies below (suc s) zero i h k = let e : i ≡ 0 = omega arith in rw e (nearest_at_world bodies (suc s) ∙ sym (nearest_at_world bodies 0))
nearest_enough bodies below (suc s) (suc t) zero h k = nearest_at_world bodies (suc s) ∙ sym (nearest_at_world bodies (suc t))
nearest_enough bodies below (suc s) (suc t) (suc i) h k =
    nearest_open bodies s (suc i) ∙ (ap (λ (n : ℕ). cond (columns_at bodies (suc i) == 0) n (sum_by own_columns (take (suc i) bodies)))
    (nearest_enough bodies below s t (parent_at bodies (suc i)) (omega (arith, below (suc i) (omega arith))) (omega (arith, below (suc i) (omega arith)))) ∙ sym (nearest_open bodies t (suc i)))

-- body k + 1 takes its own last column, or what its parent takes
pub nearest_next : (bodies : List Body) → ((i : ℕ) → 1 ≤ i → parent_at bodies i < i) → (k : ℕ) (b : Body) → slice_get bodies k ≡ Some b →
    nearest_column bodies (k + 1) ≡ cond (own_columns b == 0) (nearest_column bodies b.parent) (sum_by own_columns (take (k + 1) bodies))
unfolding nearest_column
nearest_next bodies below k b h =
    let own : columns_at bodies (suc k) ≡ own_columns b = ap (λ (o : Option Body). option_map_or own_columns o 0) h in
    let parent : parent_at bodies (suc k) ≡ b.parent = ap (λ (o : Option Body). option_map_or (λ (x : Body). x.parent) o 0) h in
    let low : b.parent ≤ k = omega (arith, below (suc k) (omega arith), parent) in
    rw add-one (nearest_open bodies k (suc k) ∙ rw (own, parent) (ap (λ (n : ℕ). cond (own_columns b == 0) n (sum_by own_columns (take (suc k) bodies))) (nearest_enough bodies below k b.parent b.parent low (omega arith))))

pub nearest_first : (bodies : List Body) → 0 ≡ nearest_column bodies 0
unfolding nearest_column
nearest_first bodies = sym (nearest_at_world bodies 0)

pub sum_small_own : (bodies : List Body) (k : ℕ) → sum_by own_columns (take k bodies) ≤ 7 * k
sum_small_own bodies k = sum_small own_columns (λ b. unless_le b.mimic _ 7 (omega (arith, few_columns (kind_of b.joint)))) bodies k

pub parent_is : (bodies : List Body) (k : ℕ) (b : Body) → slice_get bodies k ≡ Some b → parent_at bodies (suc k) ≡ b.parent
parent_is bodies k b h = ap (λ (o : Option Body). option_map_or (λ (x : Body). x.parent) o 0) h

pub parent_low : (bodies : List Body) → ((i : ℕ) → 1 ≤ i → parent_at bodies i < i) → (k : ℕ) (b : Body) → slice_get bodies k ≡ Some b → b.parent ≤ k
parent_low bodies below k b h = omega (arith, below (suc k) (omega arith), parent_is bodies k b h)

pub not_zero : (n : ℕ) → (n ≡ 0 → ⊥) → (n == 0) ≡ false
not_zero zero h = absurd (h refl)
not_zero (suc n) h = grind (arith, nat_tests)

pub nearest_none : (bodies : List Body) → ((i : ℕ) → 1 ≤ i → parent_at bodies i < i) → (k : ℕ) (b : Body) → slice_get bodies k ≡ Some b → own_columns b ≡ 0 →
    nearest_column bodies b.parent ≡ nearest_column bodies (k + 1)
nearest_none bodies below k b h e =
    sym (nearest_next bodies below k b h ∙ ap (λ (n : ℕ). cond (n == 0) (nearest_column bodies b.parent) (sum_by own_columns (take (k + 1) bodies))) e)

pub nearest_own : (bodies : List Body) → ((i : ℕ) → 1 ≤ i → parent_at bodies i < i) → (k : ℕ) (b : Body) → slice_get bodies k ≡ Some b → (own_columns b ≡ 0 → ⊥) →
    sum_by own_columns (take (k + 1) bodies) ≡ nearest_column bodies (k + 1)
nearest_own bodies below k b h e =
    sym (nearest_next bodies below k b h ∙ ap (λ (t : Bool). cond t (nearest_column bodies b.parent) (sum_by own_columns (take (k + 1) bodies))) (not_zero (own_columns b) e))

-- ---- the columns upward
lt_true : (a p : ℕ) → a ≤ p → nat_lt a (p + 1) ≡ true
lt_true a p h = grind (arith, nat_tests)

lt_false : (a p : ℕ) → p < a → nat_lt a (p + 1) ≡ false
lt_false a p h = grind (arith, nat_tests)

pub behind_start : (a p x : ℕ) → a ≤ p → p ≡ (if nat_lt a (p + 1) then p else x)
behind_start a p x h = sym (ap (λ (t : Bool). if t then p else x) (lt_true a p h))

pub at_start : (a p x : ℕ) → p < a → x ≡ (if nat_lt a (p + 1) then p else x)
at_start a p x h = sym (ap (λ (t : Bool). if t then p else x) (lt_false a p h))

-- body i of a robot has the number k + 1
pub parent_number : (bodies : List Body) (i k : ℕ) (b : Body) → i ≡ k + 1 → slice_get bodies k ≡ Some b → b.parent ≡ parent_at bodies i
parent_number bodies i k b e h = sym (ap (parent_at bodies) (e ∙ add-one k) ∙ parent_is bodies k b h)

pub owner_there : (bodies : List Body) (k owner : ℕ) → slice_get (owners_from 1 bodies) k ≡ Some owner → body_of_column bodies (k + 1) ≡ owner
unfolding body_of_column
owner_there bodies k owner h = let e : (k + 1) - 1 ≡ k = omega arith in rw e (get_or_from_slice_get (owners_from 1 bodies) k owner 0 h)

-- in a robot with a mimic each column's next one upward is the one before
pub up_mimic : (bodies : List Body) (k : ℕ) → has_mimic bodies ≡ true → k ≡ up_of bodies (k + 1)
unfolding up_of
up_mimic bodies k h =
    let e : (k + 1) - 1 ≡ k = omega arith in
    let i = body_of_column bodies (k + 1) in
    rw (h, e) refl

pub up_plain : (bodies : List Body) (k owner : ℕ) → has_mimic bodies ≡ false → slice_get (owners_from 1 bodies) k ≡ Some owner →
    (if nat_lt (start_behind bodies (owner - 1)).column (k + 1) then k else nearest_column bodies (parent_at bodies owner)) ≡ up_of bodies (k + 1)
unfolding up_of
up_plain bodies k owner h o =
    let e : (k + 1) - 1 ≡ k = omega arith in
    let i : body_of_column bodies (k + 1) ≡ owner = owner_there bodies k owner o in
    rw (i, h, e) refl

pub sum_all_small : (bodies : List Body) → sum_by own_columns bodies ≤ 7 * length bodies
sum_all_small bodies = omega (arith, ap (sum_by own_columns) (take_all (length bodies) bodies (omega arith)), sum_small_own bodies (length bodies))

-- ---- bodies by their numbers
pub body_found : (bodies : List Body) (i : ℕ) (b : Body) → 1 ≤ i → slice_get bodies (i - 1) ≡ Some b → body_at bodies i ≡ Some b
body_found bodies zero b h s = absurd (omega arith)
body_found bodies (suc k) b h s = let e : k ≡ suc k - 1 = omega arith in ap (slice_get bodies) e ∙ s

-- ---- behind the last body
pub full_end : (bodies : List Body) → (start_behind bodies (length bodies)).full ≡ 1 + sum_by full_columns bodies
unfolding start_behind
full_end bodies = rw (take_all (length bodies) bodies (omega arith)) refl

pub column_end : (bodies : List Body) → (start_behind bodies (length bodies)).column ≡ 1 + sum_by own_columns bodies
unfolding start_behind
column_end bodies = rw (take_all (length bodies) bodies (omega arith)) refl

pub entry_end : (bodies : List Body) → (start_behind bodies (length bodies)).entry ≡ sum_by own_entries bodies
unfolding start_behind
entry_end bodies = rw (take_all (length bodies) bodies (omega arith)) refl

pub end_is : (bodies : List Body) (starts : List Start) (n : ℕ) (d s : Start) → AreStarts bodies starts → n ≡ length bodies → s ≡ get_or starts n d → s ≡ start_behind bodies (length bodies)
end_is bodies starts n d s are e is = is ∙ (IsListOf-get _ (start_behind bodies) starts n d are (omega arith) ∙ ap (start_behind bodies) e)
