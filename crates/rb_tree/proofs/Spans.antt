-- The columns of each body: where they begin and end, and that the next column upward comes before.
use Rattle.std.proofs.Common.{◌≡◌, ℕ, zero, suc, ◌+◌, ◌-◌, ◌<◌, ◌≤◌, ◌==◌, ◌||◌, nat_lt, Bool, true, false, if◌then◌else◌, List, [], ◌∷◌, ◌++◌, length, take, replicate, Option, None, Some, ◌⊎◌, inl, inr, refl, sym, ◌∙◌, ap, arith, get_or}
use Rattle.std.specs.List.{slice_get, sum_by}
use Rattle.std.specs.Option.{option_map_or}
use Rattle.std.proofs.lemmas.Bool.Decides.{nat_tests}
use Rattle.std.proofs.lemmas.List.Sums.{sum_by-take-le}
use Rattle.std.proofs.lemmas.Option.{slice_get-get_or}
use Rattle.rb_tree.specs.declared.robot.Body.{Body}
use Rattle.rb_tree.specs.declared.robot.Mimic.{Mimic}
use Rattle.rb_tree.specs.Columns.{full_columns, own_columns, own_entries, full_count, entry_count, full_at, entries_at, AreUps, unless_mimic, mimic_or, start_behind, body_at, parent_at, leader_at, columns_at, first_column, owners_from, nearest_within, nearest_column, body_of_column, up_of, has_mimic, column_count}
use Rattle.rb_tree.specs.Robot.{Tree, HasBody, HasColumn}
use Rattle.rb_tree.proofs.ListLaws.{IsListOf-get, item_there}
use Rattle.rb_tree.proofs.ColumnLaws.{sum_cons, sum_more, owner_in, length-owners, nearest_open, nearest_at_world}

-- place k is one of the columns of the body at place j
pub record Spans (bodies : List Body) (j k : ℕ) : Type 0 where
  pub low : sum_by own_columns (take j bodies) ≤ k
  pub high : k < sum_by own_columns (take (suc j) bodies)

-- an item behind copies
record IsBehind (count : ℕ) (ys : List ℕ) (k owner : ℕ) : Type 0 where
  place : ℕ
  sum : k ≡ count + place
  is : slice_get ys place ≡ Some owner

copy_or_behind : (count n : ℕ) (ys : List ℕ) (k owner : ℕ) → slice_get (replicate count n ++ ys) k ≡ Some owner → ((k < count) × (owner ≡ n)) ⊎ IsBehind count ys k owner
copy_or_behind zero n ys k owner h = inr (record { place = k; sum = omega arith; is = h })
copy_or_behind (suc count) n ys zero owner h = inl (omega arith, let e : n ≡ owner = cc in sym e)
copy_or_behind (suc count) n ys (suc k) owner h =
    elim (copy_or_behind count n ys k owner h) [
      | inl p ↦ inl (omega (arith, p.0), p.1)
      | inr b ↦ inr (record { place = b.place; sum = omega (arith, b.sum); is = b.is })
    ]

sum_none : (bodies : List Body) (b : Body) → sum_by own_columns (take 0 (b ∷ bodies)) ≡ 0
sum_none bodies b = refl

pub owner_spans : (n : ℕ) (bodies : List Body) (k owner : ℕ) → slice_get (owners_from n bodies) k ≡ Some owner → Spans bodies (owner - n) k
owner_spans n [] k owner h = cc
owner_spans n (b ∷ bodies) k owner h =
    elim (copy_or_behind (own_columns b) n (owners_from (n + 1) bodies) k owner h) [
      | inl p ↦
          let e : owner - n ≡ 0 = omega (arith, p.1) in
          rw e (record { low = omega (arith, sum_none bodies b); high = omega (arith, sum_cons own_columns b bodies 0, p.0) })
      | inr r ↦
          let o = owner_in (n + 1) bodies r.place owner r.is in
          let s = owner_spans (n + 1) bodies r.place owner r.is in
          let e : owner - n ≡ suc (owner - (n + 1)) = omega (arith, o.from) in
          rw e (record {
            low = omega (arith, sum_cons own_columns b bodies (owner - (n + 1)), s.low, r.sum);
            high = omega (arith, sum_cons own_columns b bodies (suc (owner - (n + 1))), s.high, r.sum);
          })
    ]

-- ---- columns by number
-- the sum grows
pub sum_rises : (bodies : List Body) (i j : ℕ) → i ≤ j → sum_by own_columns (take i bodies) ≤ sum_by own_columns (take j bodies)
sum_rises [] zero j h = omega arith
sum_rises [] (suc i) zero h = omega arith
sum_rises [] (suc i) (suc j) h = omega arith
sum_rises (b ∷ bodies) zero j h = omega (arith, sum_none bodies b)
sum_rises (b ∷ bodies) (suc i) zero h = absurd (omega arith)
sum_rises (b ∷ bodies) (suc i) (suc j) h = omega (arith, sum_cons own_columns b bodies i, sum_cons own_columns b bodies j, sum_rises bodies i j (omega arith))

nearest_zero : (bodies : List Body) (i : ℕ) → nearest_within 0 bodies i ≤ sum_by own_columns (take i bodies)
unfolding nearest_within
nearest_zero bodies i = omega arith

either : (t : Bool) (a n : ℕ) → a ≤ n → (if t then a else n) ≤ n
either true a n h = h
either false a n h = omega arith

nearest_small : (bodies : List Body) → ((i : ℕ) → 1 ≤ i → parent_at bodies i < i) → (steps i : ℕ) → nearest_within steps bodies i ≤ sum_by own_columns (take i bodies)
nearest_small bodies below zero i = nearest_zero bodies i
nearest_small bodies below (suc steps) zero = omega (arith, nearest_at_world bodies (suc steps))
nearest_small bodies below (suc steps) (suc i) =
    let rest = nearest_small bodies below steps (parent_at bodies (suc i)) in
    let rises = sum_rises bodies (parent_at bodies (suc i)) (suc i) (omega (arith, below (suc i) (omega arith))) in
    rw (nearest_open bodies steps (suc i)) (either (columns_at bodies (suc i) == 0) _ _ (omega (arith, rest, rises)))

-- a body with columns leads
leads_alone : (m : Option Mimic) (count i : ℕ) → 0 < unless_mimic m count → mimic_or m i ≡ i
leads_alone None count i h = refl
leads_alone (Some mimic) count i h = absurd (omega arith)

owner_leads_at : (o : Option Body) (i : ℕ) → 0 < option_map_or own_columns o 0 → option_map_or (λ (b : Body). mimic_or b.mimic i) o i ≡ i
owner_leads_at None i h = refl
owner_leads_at (Some b) i h = leads_alone b.mimic _ i h

pub owner_leads : (bodies : List Body) (i : ℕ) → 0 < columns_at bodies i → leader_at bodies i ≡ i
owner_leads bodies i h = owner_leads_at (body_at bodies i) i h

column_owner : (bodies : List Body) (c : ℕ) → 1 ≤ c → c ≤ column_count bodies → slice_get (owners_from 1 bodies) (c - 1) ≡ Some (body_of_column bodies c)
unfolding body_of_column
column_owner bodies c from to = slice_get-get_or (owners_from 1 bodies) (c - 1) 0 (omega (arith, length-owners 1 bodies))

pub owner_there_at : (tree : Tree) (c : ℕ) → HasColumn tree c → HasBody tree (body_of_column tree.bodies c)
owner_there_at tree c h =
    let o = owner_in 1 tree.bodies (c - 1) (body_of_column tree.bodies c) (column_owner tree.bodies c h.from h.to) in
    record { from = o.from; to = omega (arith, o.to) }

start_column : (bodies : List Body) (k : ℕ) → (start_behind bodies k).column ≡ 1 + sum_by own_columns (take k bodies)
unfolding start_behind
start_column bodies k = refl

columns_found : (bodies : List Body) (i k : ℕ) (b : Body) → i ≡ suc k → slice_get bodies k ≡ Some b → columns_at bodies i ≡ own_columns b
columns_found bodies i k b e h = ap (columns_at bodies) e ∙ ap (λ (o : Option Body). option_map_or own_columns o 0) h

-- what is known of the body of a column
record IsOwned (bodies : List Body) (i c : ℕ) : Type 0 where
  low : (start_behind bodies (i - 1)).column ≤ c
  high : c < (start_behind bodies (i - 1)).column + columns_at bodies i

owned : (bodies : List Body) (c : ℕ) → 1 ≤ c → c ≤ column_count bodies → IsOwned bodies (body_of_column bodies c) c
owned bodies c from to =
    let i = body_of_column bodies c in
    let found = column_owner bodies c from to in
    let o = owner_in 1 bodies (c - 1) i found in
    let s = owner_spans 1 bodies (c - 1) i found in
    let within : i - 1 < length bodies = omega (arith, o.from, o.to) in
    let b = item_there bodies (i - 1) within in
    let own = columns_found bodies i (i - 1) b.0 (omega (arith, o.from)) b.1 in
    let more = sum_more own_columns bodies (i - 1) b.0 b.1 in
    record {
      low = omega (arith, start_column bodies (i - 1), s.low);
      high = omega (arith, start_column bodies (i - 1), s.high, own, more);
    }

-- a column lies among those of its body
pub column_within : (tree : Tree) (c : ℕ) → HasColumn tree c → (first_column tree.bodies (body_of_column tree.bodies c) ≤ c) × (c < first_column tree.bodies (body_of_column tree.bodies c) + columns_at tree.bodies (body_of_column tree.bodies c))
column_within tree c h =
    let i = body_of_column tree.bodies c in
    let o = owned tree.bodies c h.from h.to in
    let leads = ap (λ (n : ℕ). (start_behind tree.bodies (n - 1)).column) (owner_leads tree.bodies i (omega (arith, o.low, o.high))) in
    (omega (arith, leads, o.low), omega (arith, leads, o.high))

up_cases : (t : Bool) (c near : ℕ) → 1 ≤ c → (t ≡ false → near < c) → (if t then c - 1 else near) < c
up_cases true c near from h = omega arith
up_cases false c near from h = h refl

either_false : (s t : Bool) → (s || t) ≡ false → t ≡ false
either_false true t h = cc
either_false false t h = h

not_less : (a c : ℕ) → nat_lt a c ≡ false → c ≤ a
not_less a c h = grind (arith, nat_tests)

pub up_below : (tree : Tree) (c : ℕ) → HasColumn tree c → ((i : ℕ) → 1 ≤ i → parent_at tree.bodies i < i) → up_of tree.bodies c < c
unfolding up_of nearest_column
up_below tree c h below =
    let bodies = tree.bodies in
    let i = body_of_column bodies c in
    let p = parent_at bodies i in
    let there = owner_there_at tree c h in
    let o = owned bodies c h.from h.to in
    let near = nearest_small bodies below p p in
    let rises = sum_rises bodies p (i - 1) (omega (arith, below i there.from)) in
    up_cases (has_mimic bodies || nat_lt (start_behind bodies (i - 1)).column c) c (nearest_within p bodies p) h.from (λ f.
    let least = not_less (start_behind bodies (i - 1)).column c (either_false (has_mimic bodies) _ f) in
    omega (arith, near, rises, start_column bodies (i - 1), o.low, least))

pub up_is : (bodies : List Body) (ups : List ℕ) (c r : ℕ) → AreUps bodies ups → 1 ≤ c → c ≤ column_count bodies → r ≡ get_or ups (c - 1) r → r ≡ up_of bodies c
up_is bodies ups c r l from to is =
    let e : (c - 1) + 1 ≡ c = omega arith in
    is ∙ (IsListOf-get (column_count bodies) (λ k. up_of bodies (k + 1)) ups (c - 1) r l (omega arith) ∙ ap (up_of bodies) e)

-- ---- beginnings
found_within : (f : Body → ℕ) (bodies : List Body) (k : ℕ) → k < length bodies → sum_by f (take k bodies) + option_map_or f (slice_get bodies k) 0 ≤ sum_by f bodies
found_within f bodies k h =
    let b = item_there bodies k h in
    let e = ap (λ (o : Option Body). option_map_or f o 0) b.1 in
    omega (arith, e, sum_more f bodies k b.0 b.1, sum_by-take-le f bodies (suc k))

pub sum_within : (f : Body → ℕ) (tree : Tree) (i : ℕ) → HasBody tree i → sum_by f (take (i - 1) tree.bodies) + option_map_or f (body_at tree.bodies i) 0 ≤ sum_by f tree.bodies
sum_within f tree zero h = absurd (omega (arith, h.from))
sum_within f tree (suc k) h = let e : suc k - 1 ≡ k = omega arith in rw e (found_within f tree.bodies k (omega (arith, h.to)))

pub full_within : (tree : Tree) (i : ℕ) → HasBody tree i → (start_behind tree.bodies (i - 1)).full + full_at tree.bodies i ≤ full_count tree.bodies + 1
unfolding start_behind
full_within tree i h = omega (arith, sum_within full_columns tree i h)

pub column_within_all : (tree : Tree) (i : ℕ) → HasBody tree i → (start_behind tree.bodies (i - 1)).column + columns_at tree.bodies i ≤ column_count tree.bodies + 1
unfolding start_behind
column_within_all tree i h = omega (arith, sum_within own_columns tree i h)

pub entry_within : (tree : Tree) (i : ℕ) → HasBody tree i → (start_behind tree.bodies (i - 1)).entry + entries_at tree.bodies i ≤ entry_count tree.bodies
unfolding start_behind
entry_within tree i h = sum_within own_entries tree i h

-- each of the columns upward is at most the place of its column
pub ups_below : (tree : Tree) (ups : List ℕ) → AreUps tree.bodies ups → ((i : ℕ) → 1 ≤ i → parent_at tree.bodies i < i) → (k : ℕ) → k < length ups → get_or ups k 0 ≤ k
ups_below tree ups l below k h =
    let there : HasColumn tree (k + 1) = record { from = omega arith; to = omega (arith, l.count) } in
    let e = IsListOf-get (column_count tree.bodies) (λ j. up_of tree.bodies (j + 1)) ups k 0 l (omega (arith, l.count)) in
    omega (arith, e, up_below tree (k + 1) there below)
