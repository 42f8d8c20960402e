-- A robot in which no joint follows another: each pair of columns on one path has one pair of joint columns.
use Rattle.std.proofs.Common.{◌≡◌, ◌≢◌, ℕ, zero, suc, ◌+◌, ◌-◌, ◌<◌, ◌≤◌, ◌==◌, ◌||◌, ◌&&◌, if◌then◌else◌, List, [], ◌∷◌, length, take, sum_by, slice_get, Bool, true, false, Option, None, Some, is_some, nat_lt, Result, Ok, inl, inr, refl, ap, sym, ◌∙◌, subst, arith}
use Rattle.std.specs.List.{list_any}
use Rattle.std.specs.Option.{option_map_or}
use Rattle.std.proofs.lemmas.Bool.{cases_lt}
use Rattle.rb_num.specs.Interval.{Interval, zero_interval}
use Rattle.rb_num.specs.Refusing.{iv_add}
use Rattle.rb_num.specs.declared.interval.NumFault.{NumFault}
use Rattle.rb_result.specs.Steps.{◌>>=◌}
use Rattle.rb_result.proofs.Results.{value_last}
use Rattle.rb_sweep.specs.Sweep.{Among, sweep, counting_up, counting_down, upward, downward}
use Rattle.rb_sweep.proofs.Climbing.{then_same}
use Rattle.rb_flat.specs.Dynamics.{follows}
use Rattle.rb_work.specs.Path.{above as up_in, path, IsOn}
use Rattle.rb_work.proofs.PathLaws.{path_next, path_done}
use Rattle.rb_work.specs.View.{View, H_at}
use Rattle.rb_tree.specs.declared.robot.Body.{Body}
use Rattle.rb_tree.specs.declared.robot.Mimic.{Mimic}
use Rattle.rb_tree.specs.Columns.{body_at, parent_at, full_at, columns_at, leader_at, mimic_or, full_columns, own_columns, unless_mimic, has_mimic, start_behind, first_full, first_column, body_of_column, nearest_within, nearest_column, up_of}
use Rattle.rb_tree.specs.Numbers.{mimic_at}
use Rattle.rb_tree.specs.Shape.{master_of}
use Rattle.rb_tree.specs.Robot.{Tree, HasBody, HasColumn, AreBodies}
use Rattle.rb_tree.proofs.ColumnLaws.{nearest_open}
use Rattle.rb_tree.proofs.Spans.{column_within, owner_there_at, up_below}
use Rattle.rb_mass.specs.Entries.{HasJointColumn, HasEntry, above, met_columns, entry_at}
use Rattle.rb_mass.specs.Table.{ups_of, column_of, is_led, is_pair, pair_adds, add_pair, add_body, add_column, add_joint}
use Rattle.rb_mass.proofs.Ways.{sum_next, ups_ascend, up_listed, above_here, above_next, above_falls}
use Rattle.rb_mass.proofs.Counts.{same_column, entry_body, entry_below, second_number, met_once}

-- ---- a sweep of which one step alone does something
module _ {S E : Type 0} (step : ℕ → S → Result S E) (j : ℕ) where
  abbrev ok : S → Result S E
  ok s = Ok s

  skip_up : (m lo : ℕ) (s : S) → ((i : ℕ) (t : S) → lo ≤ i → i < lo + m → step i t ≡ Ok t) → sweep step (counting_up lo m) s ≡ Ok s
  skip_up zero lo s h = refl
  skip_up (suc m) lo s h =
      ap (λ r. r >>= λ t. sweep step (counting_up (lo + 1) m) t) (h lo s (omega arith) (omega arith)) ∙ skip_up m (lo + 1) s (λ i t low high. h i t (omega arith) (omega arith))

  one_up : (m lo : ℕ) (s : S) → lo ≤ j → j < lo + m → ((i : ℕ) (t : S) → lo ≤ i → i < lo + m → i ≢ j → step i t ≡ Ok t) → sweep step (counting_up lo m) s ≡ step j s
  one_up zero lo s low high h = absurd (omega arith)
  one_up (suc m) lo s low high h =
      elim (cases_lt lo j) [
        | inl l ↦
            ap (λ r. r >>= λ t. sweep step (counting_up (lo + 1) m) t) (h lo s (omega arith) (omega arith) (λ e. absurd (omega arith)))
            ∙ one_up m (lo + 1) s (omega arith) (omega arith) (λ i t a b. h i t (omega arith) (omega arith))
        | inr g ↦
            let e : lo ≡ j = omega arith in
            then_same (step lo s) _ ok (λ t. skip_up m (lo + 1) t (λ i u a b. h i u (omega arith) (omega arith) (λ f. absurd (omega arith))))
            ∙ value_last (step lo s)
            ∙ ap (λ i. step i s) e
      ]

  skip_down : (m lo : ℕ) (s : S) → ((i : ℕ) (t : S) → lo ≤ i → i < lo + m → step i t ≡ Ok t) → sweep step (counting_down lo m) s ≡ Ok s
  skip_down zero lo s h = refl
  skip_down (suc m) lo s h =
      ap (λ r. r >>= λ t. sweep step (counting_down lo m) t) (h (lo + m) s (omega arith) (omega arith)) ∙ skip_down m lo s (λ i t low high. h i t low (omega arith))

  one_down : (m lo : ℕ) (s : S) → lo ≤ j → j < lo + m → ((i : ℕ) (t : S) → lo ≤ i → i < lo + m → i ≢ j → step i t ≡ Ok t) → sweep step (counting_down lo m) s ≡ step j s
  one_down zero lo s low high h = absurd (omega arith)
  one_down (suc m) lo s low high h =
      elim (cases_lt j (lo + m)) [
        | inl l ↦
            ap (λ r. r >>= λ t. sweep step (counting_down lo m) t) (h (lo + m) s (omega arith) (omega arith) (λ e. absurd (omega arith)))
            ∙ one_down m lo s low l (λ i t a b. h i t a (omega arith))
        | inr g ↦
            let e : lo + m ≡ j = omega arith in
            then_same (step (lo + m) s) _ ok (λ t. skip_down m lo t (λ i u a b. h i u a (omega arith) (λ f. absurd (omega arith))))
            ∙ value_last (step (lo + m) s)
            ∙ ap (λ i. step i s) e
      ]

  only_up : (lo hi : ℕ) (s : S) → lo ≤ j → j < hi → ((i : ℕ) (t : S) → lo ≤ i → i < hi → i ≢ j → step i t ≡ Ok t) → sweep step (upward lo hi) s ≡ step j s
  unfolding upward
  only_up lo hi s low high h = one_up (hi - lo) lo s low (omega arith) (λ i t a b. h i t a (omega arith))

  only_down : (lo hi : ℕ) (s : S) → lo ≤ j → j < hi → ((i : ℕ) (t : S) → lo ≤ i → i < hi → i ≢ j → step i t ≡ Ok t) → sweep step (downward lo hi) s ≡ step j s
  unfolding downward
  only_down lo hi s low high h = one_down (hi - lo) lo s low (omega arith) (λ i t a b. h i t a (omega arith))

  none_up : (lo hi : ℕ) (s : S) → ((i : ℕ) (t : S) → lo ≤ i → i < hi → step i t ≡ Ok t) → sweep step (upward lo hi) s ≡ Ok s
  unfolding upward
  none_up lo hi s h = elim (cases_lt lo hi) [ inl l ↦ skip_up (hi - lo) lo s (λ i t a b. h i t a (omega arith)) | inr g ↦ skip_up (hi - lo) lo s (λ i t a b. absurd (omega arith)) ]

  none_down : (lo hi : ℕ) (s : S) → ((i : ℕ) (t : S) → lo ≤ i → i < hi → step i t ≡ Ok t) → sweep step (downward lo hi) s ≡ Ok s
  unfolding downward
  none_down lo hi s h = elim (cases_lt lo hi) [ inl l ↦ skip_down (hi - lo) lo s (λ i t a b. h i t a (omega arith)) | inr g ↦ skip_down (hi - lo) lo s (λ i t a b. absurd (omega arith)) ]

-- ---- columns where no joint follows another
leads : (bodies : List Body) (k : ℕ) (b : Body) → has_mimic bodies ≡ false → slice_get bodies k ≡ Some b → b.mimic ≡ None
leads [] k b plain e = absurd cc
leads (a ∷ bodies) zero b plain e = go a.mimic refl
  where
    go : (o : Option Mimic) → a.mimic ≡ o → b.mimic ≡ None
    go None s = let same : a ≡ b = cc in sym (ap (λ (x : Body). x.mimic) same) ∙ s
    go (Some m) s = let t : has_mimic (a ∷ bodies) ≡ true = ap (λ (o : Option Mimic). is_some o || has_mimic bodies) s in absurd cc
leads (a ∷ bodies) (suc k) b plain e = go a.mimic refl (λ rest. leads bodies k b rest e)
  where
    go : (o : Option Mimic) → a.mimic ≡ o → (has_mimic bodies ≡ false → b.mimic ≡ None) → b.mimic ≡ None
    go None s later = let t : has_mimic (a ∷ bodies) ≡ has_mimic bodies = ap (λ (o : Option Mimic). is_some o || has_mimic bodies) s in later (sym t ∙ plain)
    go (Some m) s later = let t : has_mimic (a ∷ bodies) ≡ true = ap (λ (o : Option Mimic). is_some o || has_mimic bodies) s in absurd cc

module _ (tree : Tree) (plain : has_mimic tree.bodies ≡ false) where
  leads_at : (i : ℕ) (b : Body) → body_at tree.bodies i ≡ Some b → b.mimic ≡ None
  leads_at zero b e = absurd cc
  leads_at (suc k) b e = leads tree.bodies k b plain e

  no_mimic : (i : ℕ) → mimic_at tree.bodies i ≡ None
  no_mimic i = go (body_at tree.bodies i) refl
    where
      go : (o : Option Body) → body_at tree.bodies i ≡ o → option_map_or (λ (body : Body). body.mimic) o None ≡ None
      go None e = refl
      go (Some b) e = leads_at i b e

  own_leader : (i : ℕ) → leader_at tree.bodies i ≡ i
  own_leader i = go (body_at tree.bodies i) refl
    where
      go : (o : Option Body) → body_at tree.bodies i ≡ o → option_map_or (λ (body : Body). mimic_or body.mimic i) o i ≡ i
      go None e = refl
      go (Some b) e = ap (λ (o : Option Mimic). mimic_or o i) (leads_at i b e)

  own_is_full : (i : ℕ) → columns_at tree.bodies i ≡ full_at tree.bodies i
  own_is_full i = go (body_at tree.bodies i) refl
    where
      go : (o : Option Body) → body_at tree.bodies i ≡ o → option_map_or own_columns o 0 ≡ option_map_or full_columns o 0
      go None e = refl
      go (Some b) e = ap (λ (o : Option Mimic). unless_mimic o (full_columns b)) (leads_at i b e)

  sums_same : (k : ℕ) → sum_by own_columns (take k tree.bodies) ≡ sum_by full_columns (take k tree.bodies)
  sums_same zero = refl
  sums_same (suc k) =
      let own = sum_next own_columns tree.bodies k in
      let full = sum_next full_columns tree.bodies k in
      let same = own_is_full (suc k) in
      let before = sums_same k in
      omega (arith, own, full, same, before)

  -- a column and the full column of it have one number
  first_is : (i : ℕ) → first_column tree.bodies i ≡ first_full tree.bodies i
  unfolding start_behind
  first_is i = ap (λ (m : ℕ). 1 + sum_by own_columns (take (m - 1) tree.bodies)) (own_leader i) ∙ ap (λ (n : ℕ). 1 + n) (sums_same (i - 1))

  any_none : (p : ℕ → Bool) (xs : List ℕ) → ((j : ℕ) → p j ≡ false) → list_any p xs ≡ false
  any_none p [] h = refl
  any_none p (x ∷ xs) h = let a = h x in let b = any_none p xs h in rw (a, b) refl

  none_led : (c : ℕ) → is_led tree.bodies c ≡ false
  none_led c = any_none (λ j. follows (master_of (mimic_at tree.bodies j)) (body_of_column tree.bodies c)) (upward 1 (length tree.bodies + 1))
      (λ j. ap (λ (o : Option Mimic). follows (master_of o) (body_of_column tree.bodies c)) (no_mimic j))

-- ---- tests of numbers
apart_test : (a b : ℕ) → a ≢ b → (a == b) ≡ false
apart_test a b h = grind arith

same_test : (a b : ℕ) → a ≡ b → (a == b) ≡ true
same_test a b h = grind arith

left_out : (x u : Bool) → ((x && false) || (false && u)) ≡ false
left_out true u = refl
left_out false u = refl

right_out : (y z : Bool) → ((false && y) || (z && false)) ≡ false
right_out y true = refl
right_out y false = refl

both_out : (x z : Bool) → ((x && false) || (z && false)) ≡ false
both_out true true = refl
both_out true false = refl
both_out false true = refl
both_out false false = refl

no_pair : (e g c d : ℕ) → g ≤ e → c ≤ d → (e ≡ d → g ≡ c → ⊥) → ((e == c && g == d) || (e == d && g == c)) ≡ false
no_pair e g c d le order never =
    elim (cases_lt e d) [
      | inl l ↦
          let a : (g == d) ≡ false = apart_test g d (λ s. absurd (omega arith)) in
          let b : (e == d) ≡ false = apart_test e d (λ s. absurd (omega arith)) in
          rw (a, b) (left_out (e == c) (g == c))
      | inr ge ↦ elim (cases_lt d e) [
        | inl l ↦
            let a : (e == c) ≡ false = apart_test e c (λ s. absurd (omega arith)) in
            let b : (e == d) ≡ false = apart_test e d (λ s. absurd (omega arith)) in
            rw (a, b) refl
        | inr le' ↦
            let same : e ≡ d = omega arith in
            let b : (g == c) ≡ false = apart_test g c (never same) in
            elim (cases_lt c e) [
              | inl l ↦ let a : (e == c) ≡ false = apart_test e c (λ s. absurd (omega arith)) in rw (a, b) (right_out (g == d) (e == d))
              | inr f ↦
                  let ce : c ≡ e = omega arith in
                  let a : (g == d) ≡ false = apart_test g d (λ s. never same (omega arith)) in
                  rw (a, b) (both_out (e == c) (e == d))
            ]
      ]
    ]

last_true : (x : Bool) → (x || true) ≡ true
last_true true = refl
last_true false = refl

is_a_pair : (e g c d : ℕ) → e ≡ d → g ≡ c → ((e == c && g == d) || (e == d && g == c)) ≡ true
is_a_pair e g c d h k =
    let a : (e == d) ≡ true = same_test e d h in
    let b : (g == c) ≡ true = same_test g c k in
    rw (a, b) (last_true (e == c && g == d))

module _ (tree : Tree) (kept : AreBodies tree.bodies) (plain : has_mimic tree.bodies ≡ false) (w : View) (c d : ℕ) (order : c ≤ d) where
  number : (i k : ℕ) → column_of tree.bodies i k ≡ first_full tree.bodies i + k
  number i k = ap (λ (x : ℕ). x + k) (first_is tree plain i)

  pair_skips : (i k n l : ℕ) (x : Interval) → HasEntry tree i k n l → (first_full tree.bodies i + k ≡ d → first_full tree.bodies (above tree i n) + l ≡ c → ⊥)
      → add_pair tree.bodies w c d i k (above tree i n) l x ≡ Ok x
  unfolding add_pair
  pair_skips i k n l x has never =
      let first = number i k in
      let second = number (above tree i n) l in
      let below = second_number tree kept i k n l has in
      let e : is_pair tree.bodies c d i k (above tree i n) l ≡ false =
      no_pair (column_of tree.bodies i k) (column_of tree.bodies (above tree i n) l) c d (omega (arith, first, second, below)) order (λ p q. never (sym first ∙ p) (sym second ∙ q)) in
      ap (λ (b : Bool). if b then (pair_adds tree.bodies c d i k (above tree i n) l (entry_at tree.bodies w i k (above tree i n) l) >>= λ y. iv_add x y) else Ok x) e

  body_skips : (i k n : ℕ) (x : Interval) → HasJointColumn tree i k → n < length tree.bodies
      → ((l : ℕ) → HasEntry tree i k n l → first_full tree.bodies i + k ≡ d → first_full tree.bodies (above tree i n) + l ≡ c → ⊥) → add_body tree.bodies w c d i k (above tree i n) x ≡ Ok x
  unfolding add_body
  body_skips i k n x has h never =
      none_down (add_pair tree.bodies w c d i k (above tree i n)) 0 0 (met_columns tree.bodies i k (above tree i n)) x
      (λ l t low high. let there : HasEntry tree i k n l = record { column = has; steps = h; below = high } in pair_skips i k n l t there (never l there))

  sought_or : (b : Bool) (r : Result Interval NumFault) (x : Interval) → r ≡ Ok x → (if b then r else Ok x) ≡ Ok x
  sought_or true r x h = h
  sought_or false r x h = refl

  column_skips : (i k : ℕ) (x : Interval) → HasJointColumn tree i k → first_full tree.bodies i + k ≢ d → add_column tree w c d i k x ≡ Ok x
  unfolding add_column
  column_skips i k x has never =
      sought_or (column_of tree.bodies i k == c || column_of tree.bodies i k == d) _ x
      (none_up (λ n. add_body tree.bodies w c d i k (above tree i n)) 0 0 (length tree.bodies) x (λ n t low high. body_skips i k n t has high (λ l there e s. never e)))

  joint_skips : (i : ℕ) (x : Interval) → HasBody tree i → ((k : ℕ) → HasJointColumn tree i k → first_full tree.bodies i + k ≢ d) → add_joint tree w c d i x ≡ Ok x
  unfolding add_joint
  joint_skips i x has never =
      none_up (add_column tree w c d i) 0 0 (full_at tree.bodies i) x
      (λ k t low high. let there : HasJointColumn tree i k = record { body = has; below = high } in column_skips i k t there (never k there))

  -- the one pair of joint columns
  module _ (i k n l : ℕ) (has : HasEntry tree i k n l) (first : first_full tree.bodies i + k ≡ d) (second : first_full tree.bodies (above tree i n) + l ≡ c) where
    pair_once : (x : Interval) → add_pair tree.bodies w c d i k (above tree i n) l x ≡ iv_add x (H_at w d c)
    unfolding add_pair pair_adds
    pair_once x =
        let e : is_pair tree.bodies c d i k (above tree i n) l ≡ true =
        is_a_pair (column_of tree.bodies i k) (column_of tree.bodies (above tree i n) l) c d (number i k ∙ first) (number (above tree i n) l ∙ second) in
        let led_c = none_led tree plain c in
        let led_d = none_led tree plain d in
        rw (e, led_c, led_d) (ap (λ (m : ℕ). iv_add x (H_at w m (first_full tree.bodies (above tree i n) + l))) first ∙ ap (λ (m : ℕ). iv_add x (H_at w d m)) second)

    body_once : (x : Interval) → add_body tree.bodies w c d i k (above tree i n) x ≡ iv_add x (H_at w d c)
    unfolding add_body
    body_once x =
        let below = has.below in
        only_down (add_pair tree.bodies w c d i k (above tree i n)) l 0 (met_columns tree.bodies i k (above tree i n)) x (omega arith) below
        (λ q t low high differ.
        pair_skips i k n q t (record { column = has.column; steps = has.steps; below = high }) (λ e s. differ (omega (arith, s, second))))
        ∙ pair_once x

    column_once : (x : Interval) → add_column tree w c d i k x ≡ iv_add x (H_at w d c)
    unfolding add_column
    column_once x =
        let steps = has.steps in
        let e : (column_of tree.bodies i k == d) ≡ true = same_test (column_of tree.bodies i k) d (number i k ∙ first) in
        let b : (column_of tree.bodies i k == c || column_of tree.bodies i k == d) ≡ true = ap (λ (t : Bool). column_of tree.bodies i k == c || t) e ∙ last_true (column_of tree.bodies i k == c) in
        ap (λ (t : Bool). if t then sweep (λ n. add_body tree.bodies w c d i k (above tree i n)) (upward 0 (length tree.bodies)) x else Ok x) b
        ∙ only_up (λ n. add_body tree.bodies w c d i k (above tree i n)) n 0 (length tree.bodies) x (omega arith) steps
        (λ o t low high differ.
        body_skips i k o t has.column high
        (λ q there p s.
        let same = same_column tree.bodies (above tree i o) q (above tree i n) l (entry_body tree kept i k o q there).from (entry_body tree kept i k n l has).from (entry_below tree kept i k o q there)
        (entry_below tree kept i k n l has) (s ∙ sym second) in
        differ (met_once tree kept i o n (entry_body tree kept i k o q there).from same.0)))
        ∙ body_once x

    joint_once : (x : Interval) → add_joint tree w c d i x ≡ iv_add x (H_at w d c)
    unfolding add_joint
    joint_once x =
        let below = has.column.below in
        only_up (add_column tree w c d i) k 0 (full_at tree.bodies i) x (omega arith) below
        (λ m t low high differ. column_skips i m t (record { body = has.column.body; below = high }) (λ e. differ (omega (arith, e, first))))
        ∙ column_once x

    gathered_once : (x : Interval) → sweep (add_joint tree w c d) (upward 1 (length tree.bodies + 1)) x ≡ iv_add x (H_at w d c)
    gathered_once x =
        let from = has.column.body.from in
        let to = has.column.body.to in
        only_up (add_joint tree w c d) i 1 (length tree.bodies + 1) x from (omega arith)
        (λ j t low high differ.
        let there : HasBody tree j = record { from = low; to = omega arith } in
        joint_skips j t there
        (λ m column e. differ (same_column tree.bodies j m i k low from column.below has.column.below (e ∙ sym first)).0))
        ∙ joint_once x

-- ---- columns on one path are those of bodies on one path
-- a pair of joint columns with these numbers
record Met (tree : Tree) (d c : ℕ) : Type 0 where
  i : ℕ
  k : ℕ
  n : ℕ
  l : ℕ
  has : HasEntry tree i k n l
  first : first_full tree.bodies i + k ≡ d
  second : first_full tree.bodies (above tree i n) + l ≡ c

-- the last column of the joint of a body some steps above body i
record Last (tree : Tree) (i s e : ℕ) : Type 0 where
  steps : ℕ
  least : s ≤ steps
  some : 1 ≤ full_at tree.bodies (above tree i steps)
  is : first_full tree.bodies (above tree i steps) + (full_at tree.bodies (above tree i steps) - 1) ≡ e

module _ (tree : Tree) (kept : AreBodies tree.bodies) (plain : has_mimic tree.bodies ≡ false) where
  further : (i n m : ℕ) → above tree i (n + m) ≡ above tree (above tree i n) m
  further i n zero = let e : n + 0 ≡ n = omega arith in ap (above tree i) e ∙ sym (above_here tree kept (above tree i n))
  further i n (suc m) =
      let e : n + suc m ≡ n + m + 1 = omega arith in
      let f : m + 1 ≡ suc m = omega arith in
      ap (above tree i) e ∙ above_next tree kept i (n + m) ∙ ap (parent_at tree.bodies) (further i n m) ∙ sym (above_next tree kept (above tree i n) m) ∙ ap (above tree (above tree i n)) f

  last_number : (j : ℕ) → 1 ≤ j → 1 ≤ full_at tree.bodies j → first_full tree.bodies j + (full_at tree.bodies j - 1) ≡ sum_by own_columns (take j tree.bodies)
  unfolding start_behind
  last_number zero low some = absurd (omega arith)
  last_number (suc j) low some =
      let e : suc j - 1 ≡ j = omega arith in
      let s : sum_by full_columns (take (suc j - 1) tree.bodies) ≡ sum_by full_columns (take j tree.bodies) = ap (λ (m : ℕ). sum_by full_columns (take m tree.bodies)) e in
      let n = sum_next full_columns tree.bodies j in
      let same = sums_same tree plain (suc j) in
      omega (arith, s, n, same, some)

  nearest_zero : (j : ℕ) → nearest_within zero tree.bodies j ≡ 0
  unfolding nearest_within
  nearest_zero j = refl

  nearest : (t i s : ℕ) → 1 ≤ nearest_within t tree.bodies (above tree i s) → Last tree i s (nearest_within t tree.bodies (above tree i s))
  nearest zero i s h = absurd (omega (arith, nearest_zero (above tree i s), h))
  nearest (suc t) i s h = go (columns_at tree.bodies (above tree i s) == 0) refl (nearest t i (s + 1))
    where
      open_at : (b : Bool) → (columns_at tree.bodies (above tree i s) == 0) ≡ b → nearest_within (suc t) tree.bodies (above tree i s)
          ≡ (if b then nearest_within t tree.bodies (parent_at tree.bodies (above tree i s)) else sum_by own_columns (take (above tree i s) tree.bodies))
      open_at b e =
          nearest_open tree.bodies t (above tree i s)
          ∙ ap (λ (b : Bool). if b then nearest_within t tree.bodies (parent_at tree.bodies (above tree i s)) else sum_by own_columns (take (above tree i s) tree.bodies)) e

      go : (b : Bool) → (columns_at tree.bodies (above tree i s) == 0) ≡ b
          → (1 ≤ nearest_within t tree.bodies (above tree i (s + 1)) → Last tree i (s + 1) (nearest_within t tree.bodies (above tree i (s + 1)))) → Last tree i s (nearest_within (suc t) tree.bodies (above tree i s))
      go true e later =
          let v : nearest_within (suc t) tree.bodies (above tree i s) ≡ nearest_within t tree.bodies (above tree i (s + 1)) =
          open_at true e ∙ ap (nearest_within t tree.bodies) (sym (above_next tree kept i s)) in
          let r : Last tree i (s + 1) (nearest_within t tree.bodies (above tree i (s + 1))) = later (omega (arith, v, h)) in
          let least = r.least in
          record { steps = r.steps; least = omega (arith, least); some = r.some; is = r.is ∙ sym v }
      go false e later =
          let v = open_at false e in
          let same = own_is_full tree plain (above tree i s) in
          let some : 1 ≤ full_at tree.bodies (above tree i s) = elim (cases_lt 0 (columns_at tree.bodies (above tree i s))) [
            | inl l ↦ omega (arith, same, l)
            | inr g ↦ let z : (columns_at tree.bodies (above tree i s) == 0) ≡ true = same_test (columns_at tree.bodies (above tree i s)) 0 (omega arith) in absurd cc
          ] in
          let low : 1 ≤ above tree i s = elim (cases_lt 0 (above tree i s)) [
            | inl l ↦ l
            | inr g ↦ let z : above tree i s ≡ 0 = omega arith in let q : full_at tree.bodies (above tree i s) ≡ 0 = ap (full_at tree.bodies) z in absurd (omega (arith, q, some))
          ] in
          record { steps = s; least = omega arith; some = some; is = last_number (above tree i s) low some ∙ sym v }

  -- the joint column of a column
  owner_joint : (d : ℕ) → HasColumn tree d → HasJointColumn tree (body_of_column tree.bodies d) (d - first_full tree.bodies (body_of_column tree.bodies d))
  owner_joint d has =
      let i = body_of_column tree.bodies d in
      let within = column_within tree d has in
      let same = first_is tree plain i in
      let full = own_is_full tree plain i in
      let high = within.1 in
      let low = within.0 in
      record { body = owner_there_at tree d has; below = omega (arith, same, full, low, high) }

  owner_number : (d : ℕ) → HasColumn tree d → first_full tree.bodies (body_of_column tree.bodies d) + (d - first_full tree.bodies (body_of_column tree.bodies d)) ≡ d
  owner_number d has =
      let low = (column_within tree d has).0 in
      let same = first_is tree plain (body_of_column tree.bodies d) in
      omega (arith, same, low)

  own_met : (i k : ℕ) → met_columns tree.bodies i k (above tree i 0) ≡ k + 1
  own_met i k = ap (λ (b : Bool). if b then k + 1 else full_at tree.bodies (above tree i 0)) (same_test (above tree i 0) i (above_here tree kept i))

  met_self : (d : ℕ) → HasColumn tree d → Met tree d d
  met_self d has =
      let i = body_of_column tree.bodies d in
      let k = d - first_full tree.bodies i in
      let some = kept.some in
      let met = own_met i k in
      record {
        i = i;
        k = k;
        n = 0;
        l = k;
        has = record { column = owner_joint d has; steps = omega (arith, some); below = omega (arith, met) };
        first = owner_number d has;
        second = ap (λ (a : ℕ). first_full tree.bodies a + k) (above_here tree kept i) ∙ owner_number d has;
      }

  met_grows : (i m k a : ℕ) → m ≤ k → met_columns tree.bodies i m a ≤ met_columns tree.bodies i k a
  met_grows i m k a h = go (a == i)
    where
      go : (b : Bool) → (if b then m + 1 else full_at tree.bodies a) ≤ (if b then k + 1 else full_at tree.bodies a)
      go true = omega arith
      go false = omega arith

  -- by a column of the same joint
  met_before : (d c : ℕ) (has : HasColumn tree d) → first_full tree.bodies (body_of_column tree.bodies d) < d → Met tree (d - 1) c → Met tree d c
  met_before d c has later m =
      let i = body_of_column tree.bodies d in
      let k = d - first_full tree.bodies i in
      let column = owner_joint d has in
      let below = column.below in
      let number = owner_number d has in
      let first = m.first in
      let same = same_column tree.bodies m.i m.k i (k - 1) m.has.column.body.from column.body.from m.has.column.below (omega (arith, below)) (omega (arith, first, number, later)) in
      let lesser = same.1 in
      let there : HasEntry tree i m.k m.n m.l = subst (λ (j : ℕ). HasEntry tree j m.k m.n m.l) same.0 m.has in
      let short = there.below in
      let grows = met_grows i m.k k (above tree i m.n) (omega (arith, lesser)) in
      record {
        i = i;
        k = k;
        n = m.n;
        l = m.l;
        has = record { column = column; steps = m.has.steps; below = omega (arith, short, grows) };
        first = number;
        second = sym (ap (λ (j : ℕ). first_full tree.bodies (above tree j m.n) + m.l) same.0) ∙ m.second;
      }

  -- by the last column of a body above
  met_above : (d c e : ℕ) (has : HasColumn tree d) → Last tree (body_of_column tree.bodies d) 1 e → Met tree e c → Met tree d c
  met_above d c e has last m =
      let i = body_of_column tree.bodies d in
      let k = d - first_full tree.bodies i in
      let column = owner_joint d has in
      let some = last.some in
      let least = last.least in
      let low : 1 ≤ above tree i last.steps = elim (cases_lt 0 (above tree i last.steps)) [
        | inl l ↦ l
        | inr g ↦ let z : above tree i last.steps ≡ 0 = omega arith in let q : full_at tree.bodies (above tree i last.steps) ≡ 0 = ap (full_at tree.bodies) z in absurd (omega (arith, q, some))
      ] in
      let same = same_column tree.bodies m.i m.k (above tree i last.steps) (full_at tree.bodies (above tree i last.steps) - 1) m.has.column.body.from low m.has.column.below (omega (arith, some))
      (m.first ∙ sym last.is) in
      let way : above tree i (last.steps + m.n) ≡ above tree m.i m.n = further i last.steps m.n ∙ sym (ap (λ (j : ℕ). above tree j m.n) same.0) in
      let there = entry_body tree kept m.i m.k m.n m.l m.has in
      let from = there.from in
      let falls = above_falls tree kept i (last.steps + m.n) (omega (arith, way, from)) in
      let to = column.body.to in
      let short = entry_below tree kept m.i m.k m.n m.l m.has in
      let full : full_at tree.bodies (above tree i (last.steps + m.n)) ≡ full_at tree.bodies (above tree m.i m.n) = ap (full_at tree.bodies) way in
      let other : (above tree i (last.steps + m.n) == i) ≡ false = apart_test (above tree i (last.steps + m.n)) i (λ s. absurd (omega (arith, s, falls, least))) in
      let met : met_columns tree.bodies i k (above tree i (last.steps + m.n)) ≡ full_at tree.bodies (above tree i (last.steps + m.n)) =
      ap (λ (b : Bool). if b then k + 1 else full_at tree.bodies (above tree i (last.steps + m.n))) other in
      record {
        i = i;
        k = k;
        n = last.steps + m.n;
        l = m.l;
        has = record { column = column; steps = omega (arith, falls, way, from, to); below = omega (arith, met, full, short) };
        first = owner_number d has;
        second = ap (λ (a : ℕ). first_full tree.bodies a + m.l) way ∙ m.second;
      }

  up_opens : (d : ℕ) → up_of tree.bodies d
      ≡ (if nat_lt (start_behind tree.bodies (body_of_column tree.bodies d - 1)).column d then d - 1 else nearest_column tree.bodies (parent_at tree.bodies (body_of_column tree.bodies d)))
  unfolding up_of
  up_opens d =
      let i = body_of_column tree.bodies d in
      ap (λ (b : Bool). if b || nat_lt (start_behind tree.bodies (i - 1)).column d then d - 1 else nearest_column tree.bodies (parent_at tree.bodies i)) plain

  start_is : (i : ℕ) → (start_behind tree.bodies (i - 1)).column ≡ first_full tree.bodies i
  start_is i = sym (ap (λ (m : ℕ). (start_behind tree.bodies (m - 1)).column) (own_leader tree plain i)) ∙ first_is tree plain i

  nearest_last : (i : ℕ) → 1 ≤ nearest_column tree.bodies (parent_at tree.bodies i) → Last tree i 1 (nearest_column tree.bodies (parent_at tree.bodies i))
  unfolding nearest_column
  nearest_last i h =
      let p = parent_at tree.bodies i in
      let e : above tree i 1 ≡ p = above_next tree kept i 0 ∙ ap (parent_at tree.bodies) (above_here tree kept i) in
      subst (λ (a : ℕ). Last tree i 1 (nearest_within p tree.bodies a)) e (nearest p i 1 (subst (λ (a : ℕ). 1 ≤ nearest_within p tree.bodies a) (sym e) h))

  met_up : (d c : ℕ) (has : HasColumn tree d) → 1 ≤ up_of tree.bodies d → Met tree (up_of tree.bodies d) c → Met tree d c
  met_up d c has some m =
      let i = body_of_column tree.bodies d in
      let start = start_is i in
      elim (cases_lt (first_full tree.bodies i) d) [
        | inl l ↦
            let less : (start_behind tree.bodies (i - 1)).column < d = omega (arith, start, l) in
            let t : nat_lt (start_behind tree.bodies (i - 1)).column d ≡ true = grind arith in
            let up : up_of tree.bodies d ≡ d - 1 = up_opens d ∙ ap (λ (b : Bool). if b then d - 1 else nearest_column tree.bodies (parent_at tree.bodies i)) t in
            met_before d c has l (subst (λ (e : ℕ). Met tree e c) up m)
        | inr g ↦
            let more : d ≤ (start_behind tree.bodies (i - 1)).column = omega (arith, start, g) in
            let t : nat_lt (start_behind tree.bodies (i - 1)).column d ≡ false = grind arith in
            let up : up_of tree.bodies d ≡ nearest_column tree.bodies (parent_at tree.bodies i) =
            up_opens d ∙ ap (λ (b : Bool). if b then d - 1 else nearest_column tree.bodies (parent_at tree.bodies i)) t in
            met_above d c (nearest_column tree.bodies (parent_at tree.bodies i)) has (nearest_last i (omega (arith, up, some))) (subst (λ (e : ℕ). Met tree e c) up m)
      ]

  met_within_path : (n d c : ℕ) → d ≤ n → HasColumn tree d → IsOn (ups_of tree) d c → Met tree d c
  met_within_path zero d c l has on = let low = has.from in absurd (omega arith)
  met_within_path (suc n) d c l has on =
      go (met_within_path n (up_of tree.bodies d) c) (subst (λ (is : List ℕ). Among c is) (path_next (ups_of tree) (ups_ascend tree kept) d has.from) on)
    where
      go : (up_of tree.bodies d ≤ n → HasColumn tree (up_of tree.bodies d) → IsOn (ups_of tree) (up_of tree.bodies d) c → Met tree (up_of tree.bodies d) c)
          → Among c (d ∷ path (ups_of tree) (up_in (ups_of tree) d)) → Met tree d c
      go later (inl e) = subst (λ (m : ℕ). Met tree d m) (sym e) (met_self d has)
      go later (inr i) =
          let up = up_listed tree d has.from has.to in
          let below = up_below tree d has kept.parents in
          let to = has.to in
          let on_up : IsOn (ups_of tree) (up_of tree.bodies d) c = subst (λ (m : ℕ). IsOn (ups_of tree) m c) up i in
          elim (cases_lt 0 (up_of tree.bodies d)) [
            | inl some ↦
                let there : HasColumn tree (up_of tree.bodies d) = record { from = some; to = omega (arith, below, to) } in
                met_up d c has some (later (omega (arith, below)) there on_up)
            | inr g ↦
                let z : up_of tree.bodies d ≡ 0 = omega arith in
                let none : Among c [] = subst (λ (is : List ℕ). Among c is) (ap (path (ups_of tree)) z ∙ path_done (ups_of tree)) on_up in
                absurd none
          ]

  -- the entry of two columns on one path is that of the one pair of joint columns
  pub plain_gathered : (w : View) (c d : ℕ) → HasColumn tree d → c ≤ d → IsOn (ups_of tree) d c
      → sweep (add_joint tree w c d) (upward 1 (length tree.bodies + 1)) zero_interval ≡ iv_add zero_interval (H_at w d c)
  plain_gathered w c d has order on =
      let m : Met tree d c = met_within_path d d c (omega arith) has on in
      gathered_once tree kept plain w c d order m.i m.k m.n m.l m.has m.first m.second zero_interval
