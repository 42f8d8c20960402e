-- The entries of the table lie in what a pass adds up.
use Rattle.std.proofs.Common.{◌≡◌, ℕ, zero, suc, ◌+◌, ◌-◌, ◌<◌, ◌≤◌, ◌==◌, ◌&&◌, ◌||◌, Bool, true, false, if◌then◌else◌, List, [], ◌∷◌, Option, None, Some, Ok, refl, sym, ap, ◌∙◌, subst, arith}
use mathlib.Core.Path.{ap₂}
use Rattle.rb_sweep.specs.Sweep.{sweep, upward, downward, counting_up, counting_down}
use Rattle.rb_frac.specs.Ops.{sum as sum_of}
use Rattle.rb_frac.specs.Frac.{Frac, Same, fracs, add, mul}
use Rattle.rb_frac.specs.Spatial.{Inertia}
use Rattle.rb_frac.proofs.Ring.{expr, var}
use Rattle.rb_frac.proofs.Reduce.{same_refl, same_sym}
use Rattle.rb_frac.proofs.Rational.{ℚ, ◌+ℚ◌, 0ℚ, qo, rats, cls, sound, exact, mul_same, cls-zero, add_comm, add_nul, add_assoc}
use Rattle.rb_frac.proofs.Hom.{frac_ring, cls_of_add}
use Rattle.rb_frac.proofs.Sums.{sum, sum_ext, sum_first}
use Rattle.rb_frac.proofs.Transfer.{cls-sum}
use Rattle.rb_frac.proofs.Variables.{at}
use Rattle.rb_num.specs.Interval.{Interval, zero_interval}
use Rattle.rb_num.specs.Fraction.{LiesIn}
use Rattle.rb_num.proofs.Same.{lies_in_same}
use Rattle.rb_num.proofs.Bridges.{to_intervals, ok_met}
use Rattle.rb_flat.specs.Shape.{Shape, HasBody, ParentsComeFirst, ColumnsFit}
use Rattle.rb_flat.specs.Joint.{column_count}
use Rattle.rb_flat.specs.Mechanism.{Mechanism}
use Rattle.rb_flat.specs.Dynamics.{followed}
use Rattle.rb_flat.proofs.Powers.{sum_none}
use Rattle.rb_composite.specs.Composite.{ancestor, HasJointColumn, over_joints, over_above, AreComposites, ArePairs, share, shared, gathered_once}
use Rattle.rb_composite.proofs.Paths.{equal_is, path_falls, path_body, path_ends}
use Rattle.rb_composite.proofs.Joints.{cls-over_joints, total_ext}
use Rattle.rb_composite.proofs.Owners.{gear, once_share, once_share-is}
use Rattle.rb_composite.proofs.Adding.{Adds, adds_same, adds_nul, adds_up, adds_down}
use Rattle.rb_composite.proofs.Summands.{numbers}
use Rattle.rb_mass.proofs.Pass.{Given, Found, IsWithin, IsPass, met_columns, is_pair, add_counted, add_pair, add_body, add_column, add_joint, entry_of}
use Rattle.rb_mass.proofs.OnePair.{adds_two, adds_itself}
use Rattle.rb_mass.proofs.PairsLie.{pairs_lie}

downward_all : (n : ℕ) → downward 0 n ≡ counting_down 0 n
unfolding downward
downward_all n = let e : n - 0 ≡ n = omega arith in ap (counting_down 0) e

upward_all : (n : ℕ) → upward 0 n ≡ counting_up 0 n
unfolding upward
upward_all n = let e : n - 0 ≡ n = omega arith in ap (counting_up 0) e

upward_is : (n : ℕ) → upward 1 (n + 1) ≡ counting_up 1 n
unfolding upward
upward_is n = let e : n + 1 - 1 ≡ n = omega arith in ap (counting_up 1) e

neither : (a b : Bool) → (a || b) ≡ false → (a ≡ false) × (b ≡ false)
neither true b h = absurd cc
neither false b h = (refl, h)

both_are : (a b : Bool) → (a && b) ≡ true → (a ≡ true) × (b ≡ true)
both_are true b h = (refl, h)
both_are false b h = absurd cc

first_is : (pc qd pd qc : Bool) → ((pc && qd) || (pd && qc)) ≡ true → pc ≡ false → pd ≡ true
first_is true qd pd qc h e = absurd cc
first_is false qd true qc h e = refl
first_is false qd false qc h e = absurd cc

second_is : (pc qd pd qc : Bool) → ((pc && qd) || (pd && qc)) ≡ true → qc ≡ false → qd ≡ true
second_is pc true pd qc h e = refl
second_is pc false pd true h e = absurd cc
second_is true false true false h e = absurd cc
second_is true false false false h e = absurd cc
second_is false false true false h e = absurd cc
second_is false false false false h e = absurd cc

-- a number that is c or d, where both are the same
same_as : (c d p : ℕ) → c ≡ d → ((p == c) ≡ false → (p == d) ≡ true) → p ≡ d
same_as c d p e h = go (p == c) refl
  where
    go : (b : Bool) → (p == c) ≡ b → p ≡ d
    go true f = equal_is p c f ∙ e
    go false f = equal_is p d (h f)

-- ---- shares of one column
left_none : (r : Frac) → Same fracs.nul (mul fracs.nul r)
left_none r = frac_ring (at (r ∷ [])) expr.nul (expr.mul expr.nul (var 0)) refl

right_none : (r : Frac) → Same fracs.nul (mul r fracs.nul)
right_none r = frac_ring (at (r ∷ [])) expr.nul (expr.mul (var 0) expr.nul) refl

own_share : (a b : Bool) (r : Frac) → Same (if a then (if b then mul r r else fracs.nul) else fracs.nul) (mul (if a then r else fracs.nul) (if b then r else fracs.nul))
own_share true true r = same_refl (mul r r)
own_share true false r = right_none r
own_share false true r = left_none r
own_share false false r = left_none fracs.nul

is_equal : (a b : ℕ) → a ≡ b → (a == b) ≡ true
is_equal a b e = grind arith

unequal : (a b : ℕ) → (a ≡ b → ⊥) → (a == b) ≡ false
unequal a b h = go (a == b) refl
  where
    go : (t : Bool) → (a == b) ≡ t → (a == b) ≡ false
    go true e = absurd (h (equal_is a b e))
    go false e = e

both_true : (a b : Bool) → a ≡ true → b ≡ true → (a && b) ≡ true
both_true a b e f = ap₂ ◌&&◌ e f

first_false : (a b : Bool) → a ≡ false → (a && b) ≡ false
first_false a b e = ap (λ (t : Bool). t && b) e

second_false : (a b : Bool) → b ≡ false → (a && b) ≡ false
second_false true b e = e
second_false false b e = refl

no_two : (x y z : Frac) → Same (mul (add (mul fracs.nul x) (mul fracs.nul y)) z) fracs.nul
no_two x y z =
    frac_ring (at (x ∷ y ∷ z ∷ [])) (expr.mul (expr.add (expr.mul expr.nul (var 0)) (expr.mul expr.nul (var 1))) (var 2)) expr.nul refl

no_own : (z : Frac) → Same (mul (mul fracs.nul fracs.nul) z) fracs.nul
no_own z = frac_ring (at (z ∷ [])) (expr.mul (expr.mul expr.nul expr.nul) (var 0)) expr.nul refl

-- ---- sums
shifted : (n : ℕ) (f g : ℕ → ℚ) → 1 ≤ n → ((k : ℕ) → suc k < n → f (suc k) ≡ g k) → ((k : ℕ) → suc k ≡ n → g k ≡ 0ℚ) → sum qo n f ≡ f 0 +ℚ sum qo n g
unfolding sum
shifted zero f g some same last = absurd (omega arith)
shifted (suc n) f g some same last =
    sum_first rats n f ∙ ap (λ (t : ℚ). f 0 +ℚ t) (sum_ext qo n (λ k. f (suc k)) g (λ k l. same k (omega arith)) ∙ sym (ap (λ (t : ℚ). sum qo n g +ℚ t) (last n refl) ∙ add_nul (sum qo n g)))

regrouped : (x y z : ℚ) → (x +ℚ y) +ℚ z ≡ y +ℚ (x +ℚ z)
regrouped x y z = ap (λ (t : ℚ). t +ℚ z) (add_comm x y) ∙ add_assoc y x z

module _ (shape : Shape) (m : Mechanism Frac) (g : Given) (w : Found) (parents : ParentsComeFirst shape) (fit : ColumnsFit shape) (within : IsWithin shape m g) (pass : IsPass shape g w)
    (inertia : ℕ → Inertia Frac) (composites : AreComposites shape m inertia) (pair : ℕ → ℕ → ℕ → ℕ → Frac) (pairs : ArePairs shape m inertia pair) (c d : ℕ) where
  abbrev two_ways : ℕ → ℕ → ℕ → ℕ → Frac
  two_ways i k j l = mul (add (mul (share shape m c i k) (share shape m d j l)) (mul (share shape m d i k) (share shape m c j l))) (pair i k j l)

  abbrev own : ℕ → ℕ → Frac
  own i k = shared shape m pair c d i k i k

  abbrev of_pair : ℕ → ℕ → ℕ → ℕ → Frac
  of_pair i k a l = if a == i && l == k then own i k else two_ways i k a l

  abbrev follow : Bool
  follow = g.is_followed c || g.is_followed d

  abbrev place : ℕ → ℕ → ℕ
  place i k = shape.first_column i + k

  -- ---- joints that follow none, and that none follows
  leads : (i k : ℕ) → HasJointColumn shape i k → g.is_followed (place i k) ≡ false → shape.mimic i ≡ None
  leads i k there h = go (shape.mimic i) refl
    where
      go : (o : Option ℕ) → shape.mimic i ≡ o → shape.mimic i ≡ None
      go None e = e
      go (Some master) e = absurd (let is : g.is_followed (place i k) ≡ true = within.followed i master k there e in cc)

  at_one : (i : ℕ) → shape.mimic i ≡ None → Same (gear shape m i) fracs.one
  at_one i e = subst (λ (o : Option ℕ). Same (followed fracs o (m.multiplier i) fracs.one) fracs.one) (sym e) (same_refl fracs.one)

  owned : (i k : ℕ) → HasJointColumn shape i k → shape.mimic i ≡ None → shape.owner (place i k) ≡ i
  owned i k there e = fit.alone i (place i k) (record { there = there.there; leads = e; from = omega arith; below = omega (arith, there.below) })

  -- a column that is c or d, where neither is one of a joint that others follow
  lead_of : (i k : ℕ) → HasJointColumn shape i k → ((place i k == c) ≡ false → (place i k == d) ≡ true) → (g.is_followed c || g.is_followed d) ≡ false → shape.mimic i ≡ None
  lead_of i k there is none = go (place i k == c) refl
    where
      free : (g.is_followed c ≡ false) × (g.is_followed d ≡ false)
      free = neither (g.is_followed c) (g.is_followed d) none

      go : (b : Bool) → (place i k == c) ≡ b → shape.mimic i ≡ None
      go true e = let same : place i k ≡ c = equal_is (place i k) c e in leads i k there (ap g.is_followed same ∙ free.0)
      go false e = let other : (place i k == d) ≡ true = is e in let same : place i k ≡ d = equal_is (place i k) d other in leads i k there (ap g.is_followed same ∙ free.1)

  -- two columns are not one column
  differ : (i k a l : ℕ) → (a == i && l == k) ≡ false → place i k ≡ place a l → a ≡ i → ⊥
  differ i k a l h same at =
      let start : shape.first_column a ≡ shape.first_column i = ap shape.first_column at in
      let number : l ≡ k = omega (arith, same, start) in
      let is : (a == i && l == k) ≡ true = both_true (a == i) (l == k) (is_equal a i at) (is_equal l k number) in
      let no : true ≡ false = sym is ∙ h in
      absurd cc

  -- a column of a body above, or an earlier one of the same joint, is one
  met_column : (i k n l : ℕ) → HasJointColumn shape i k → l < met_columns g i k (ancestor shape i n) → HasJointColumn shape (ancestor shape i n) l
  met_column i k n l there met = go (ancestor shape i n == i) refl (ancestor shape i n) refl
    where
      some : (a : ℕ) → ancestor shape i n ≡ a → l < g.count a → 1 ≤ ancestor shape i n
      some zero e h = let none : g.count 0 ≡ 0 = within.world in absurd (omega (arith, h, none))
      some (suc a) e h = omega (arith, e)

      go : (b : Bool) → (ancestor shape i n == i) ≡ b → (a : ℕ) → ancestor shape i n ≡ a → HasJointColumn shape (ancestor shape i n) l
      go true e a f =
          let same : ancestor shape i n ≡ i = equal_is (ancestor shape i n) i e in
          let low : l < k + 1 = subst (λ (t : Bool). l < (if t then k + 1 else g.count (ancestor shape i n))) e met in
          subst (λ (t : ℕ). HasJointColumn shape t l) (sym same) (record { there = there.there; below = omega (arith, low, there.below) })
      go false e a f =
          let low : l < g.count (ancestor shape i n) = subst (λ (t : Bool). l < (if t then k + 1 else g.count (ancestor shape i n))) e met in
          let body : HasBody shape (ancestor shape i n) = path_body shape parents i n there.there.to (some (ancestor shape i n) refl low) in
          let count : g.count (ancestor shape i n) ≡ column_count (shape.kind (ancestor shape i n)) = (within.each (ancestor shape i n) body).count in
          record { there = body; below = omega (arith, low, count) }

  -- ---- one pair
  adds_other : (i k a l : ℕ) → HasJointColumn shape i k → HasJointColumn shape a l → (a == i && l == k) ≡ false → LiesIn (pair i k a l) (w.H i k a l)
      → Adds numbers (two_ways i k a l) (add_pair shape g w c d i k a l)
  adds_other i k a l there at other lies =
      adds_same numbers (mul (once_share shape m c d i k a l) (pair i k a l)) (two_ways i k a l) (add_pair shape g w c d i k a l)
      (same_sym (two_ways i k a l) (mul (once_share shape m c d i k a l) (pair i k a l))
      (mul_same (add (mul (share shape m c i k) (share shape m d a l)) (mul (share shape m d i k) (share shape m c a l))) (once_share shape m c d i k a l) (pair i k a l) (pair i k a l)
      (once_share-is shape m c d i k a l) (same_refl (pair i k a l))))
      (adds_two c d (place i k) (place a l) follow (gear shape m i) (gear shape m a) (pair i k a l) (g.gear i) (g.gear a) (w.H i k a l)
      (within.each i there.there).gear (within.each a at.there).gear lies (a == i && l == k) other lead)
    where
      lead : is_pair c d (place i k) (place a l) ≡ true → follow ≡ false → Same (gear shape m i) fracs.one × (Same (gear shape m a) fracs.one × ((c == d) ≡ false))
      lead h none =
          let p = place i k in
          let q = place a l in
          let first : (p == c) ≡ false → (p == d) ≡ true = first_is (p == c) (q == d) (p == d) (q == c) h in
          let second : (q == c) ≡ false → (q == d) ≡ true = second_is (p == c) (q == d) (p == d) (q == c) h in
          let leads_i : shape.mimic i ≡ None = lead_of i k there first none in
          let leads_a : shape.mimic a ≡ None = lead_of a l at second none in
          (at_one i leads_i, (at_one a leads_a, two_numbers (c == d) refl first second leads_i leads_a))
        where
          two_numbers : (b : Bool) → (c == d) ≡ b → ((place i k == c) ≡ false → (place i k == d) ≡ true)
              → ((place a l == c) ≡ false → (place a l == d) ≡ true) → shape.mimic i ≡ None → shape.mimic a ≡ None → (c == d) ≡ false
          two_numbers true e first second leads_i leads_a =
              let same : c ≡ d = equal_is c d e in
              let one : place i k ≡ place a l = same_as c d (place i k) same first ∙ sym (same_as c d (place a l) same second) in
              absurd (differ i k a l other one (sym (owned a l at leads_a) ∙ ap shape.owner (sym one) ∙ owned i k there leads_i))
          two_numbers false e first second leads_i leads_a = e

  adds_own : (i k : ℕ) → HasJointColumn shape i k → (o : Bool) → o ≡ true → LiesIn (pair i k i k) (w.H i k i k)
      → Adds numbers (own i k) (λ sum. add_counted c d (place i k) (place i k) follow o (g.gear i) (g.gear i) (w.H i k i k) sum)
  unfolding share
  adds_own i k there o e lies =
      let p = place i k in
      let r = gear shape m i in
      adds_same numbers (mul (if p == c then (if p == d then mul r r else fracs.nul) else fracs.nul) (pair i k i k)) (own i k)
      (λ sum. add_counted c d p p follow o (g.gear i) (g.gear i) (w.H i k i k) sum)
      (mul_same (if p == c then (if p == d then mul r r else fracs.nul) else fracs.nul) (mul (share shape m c i k) (share shape m d i k)) (pair i k i k) (pair i k i k)
      (own_share (p == c) (p == d) r) (same_refl (pair i k i k)))
      (adds_itself c d p follow r (pair i k i k) (g.gear i) (w.H i k i k) (within.each i there.there).gear lies o e
      (λ h none. at_one i (lead_of i k there (λ f. absurd (let is : (p == c) ≡ true = (both_are (p == c) (p == d) h).0 in cc)) none)))

  adds_itself_at : (i k a l : ℕ) → a ≡ i → l ≡ k → HasJointColumn shape i k → (o : Bool) → o ≡ true → LiesIn (pair i k a l) (w.H i k a l)
      → Adds numbers (own i k) (λ sum. add_counted c d (place i k) (place a l) follow o (g.gear i) (g.gear a) (w.H i k a l) sum)
  adds_itself_at i k a l e f there o h =
      subst (λ (b : ℕ). LiesIn (pair i k b l) (w.H i k b l) → Adds numbers (own i k) (λ sum. add_counted c d (place i k) (place b l) follow o (g.gear i) (g.gear b) (w.H i k b l) sum)) (sym e)
      (subst (λ (t : ℕ). LiesIn (pair i k i t) (w.H i k i t) → Adds numbers (own i k) (λ sum. add_counted c d (place i k) (place i t) follow o (g.gear i) (g.gear i) (w.H i k i t) sum)) (sym f)
      (λ lies. adds_own i k there o h lies))

  adds_pair : (i k n l : ℕ) → HasJointColumn shape i k → n < shape.bodies → l < met_columns g i k (ancestor shape i n)
      → Adds numbers (of_pair i k (ancestor shape i n) l) (add_pair shape g w c d i k (ancestor shape i n) l)
  adds_pair i k n l there steps met = go (ancestor shape i n == i && l == k) refl
    where
      at : HasJointColumn shape (ancestor shape i n) l
      at = met_column i k n l there met

      lies : LiesIn (pair i k (ancestor shape i n) l) (w.H i k (ancestor shape i n) l)
      lies = pairs_lie shape m g w parents within pass inertia composites pair pairs i k n l there at steps met

      go : (b : Bool) → (ancestor shape i n == i && l == k) ≡ b
          → Adds numbers (if b then own i k else two_ways i k (ancestor shape i n) l) (add_pair shape g w c d i k (ancestor shape i n) l)
      go true e =
          let both : ((ancestor shape i n == i) ≡ true) × ((l == k) ≡ true) = both_are (ancestor shape i n == i) (l == k) e in
          adds_itself_at i k (ancestor shape i n) l (equal_is (ancestor shape i n) i both.0) (equal_is l k both.1) there (ancestor shape i n == i && l == k) e lies
      go false e = adds_other i k (ancestor shape i n) l there at e lies

  -- ---- along the paths
  abbrev of_body : ℕ → ℕ → ℕ → Frac
  of_body i k a = sum_of fracs (met_columns g i k a) (of_pair i k a)

  adds_body : (i k n : ℕ) → HasJointColumn shape i k → n < shape.bodies → Adds numbers (of_body i k (ancestor shape i n)) (add_body shape g w c d i k (ancestor shape i n))
  adds_body i k n there steps =
      let a = ancestor shape i n in
      subst (λ (ls : List ℕ). Adds numbers (of_body i k a) (λ v. sweep (add_pair shape g w c d i k a) ls v)) (sym (downward_all (met_columns g i k a)))
      (adds_down numbers (add_pair shape g w c d i k a) (of_pair i k a) 0 (met_columns g i k a) one)
    where
      one : (l : ℕ) → l < met_columns g i k (ancestor shape i n) → Adds numbers (of_pair i k (ancestor shape i n) l) (add_pair shape g w c d i k (ancestor shape i n) (0 + l))
      one l b =
          let same : l ≡ 0 + l = omega arith in
          subst (λ (t : ℕ). Adds numbers (of_pair i k (ancestor shape i n) l) (add_pair shape g w c d i k (ancestor shape i n) t)) same (adds_pair i k n l there steps b)

  abbrev of_column : ℕ → ℕ → Frac
  of_column i k = sum_of fracs shape.bodies (λ n. of_body i k (ancestor shape i n))

  adds_walk : (i k : ℕ) → HasJointColumn shape i k → Adds numbers (of_column i k) (λ v. sweep (λ n. add_body shape g w c d i k (ancestor shape i n)) (upward 0 shape.bodies) v)
  adds_walk i k there =
      rw (upward_all shape.bodies) (adds_up numbers (λ n. add_body shape g w c d i k (ancestor shape i n)) (λ n. of_body i k (ancestor shape i n)) 0 shape.bodies one)
    where
      one : (n : ℕ) → n < shape.bodies → Adds numbers (of_body i k (ancestor shape i n)) (add_body shape g w c d i k (ancestor shape i (0 + n)))
      one n b =
          let same : n ≡ 0 + n = omega arith in
          subst (λ (t : ℕ). Adds numbers (of_body i k (ancestor shape i n)) (add_body shape g w c d i k (ancestor shape i t))) same (adds_body i k n there b)

  -- ---- what a column adds
  pair-other : (i k a l : ℕ) → (a == i && l == k) ≡ false → of_pair i k a l ≡ two_ways i k a l
  pair-other i k a l e = ap (λ (b : Bool). if b then own i k else two_ways i k a l) e

  pair-own : (i k a l : ℕ) → (a == i && l == k) ≡ true → of_pair i k a l ≡ own i k
  pair-own i k a l e = ap (λ (b : Bool). if b then own i k else two_ways i k a l) e

  first_body : (i k : ℕ) → HasJointColumn shape i k → cls (of_body i k (ancestor shape i 0)) ≡ sum qo k (λ l. cls (two_ways i k i l)) +ℚ cls (own i k)
  unfolding ancestor sum
  first_body i k there =
      ap (λ (n : ℕ). cls (sum_of fracs n (of_pair i k i))) count
      ∙ cls-sum (suc k) (of_pair i k i)
      ∙ ap₂ ◌+ℚ◌
      (sum_ext qo k (λ l. cls (of_pair i k i l)) (λ l. cls (two_ways i k i l)) (λ l b. ap cls (pair-other i k i l (second_false (i == i) (l == k) (unequal l k (λ e. omega (arith, b, e)))))))
      (ap cls (pair-own i k i k (both_true (i == i) (k == k) (is_equal i i refl) (is_equal k k refl))))
    where
      count : met_columns g i k i ≡ suc k
      count = let e : k + 1 ≡ suc k = omega arith in ap (λ (b : Bool). if b then k + 1 else g.count i) (is_equal i i refl) ∙ e

  -- what the body so many steps above adds
  abbrev of_above : ℕ → ℕ → ℕ → Frac
  of_above i k n =
      let a = ancestor shape i (suc n) in
      if a == 0 then fracs.nul else sum_of fracs (column_count (shape.kind a)) (two_ways i k a)

  above_body : (i k n : ℕ) → HasJointColumn shape i k → cls (of_body i k (ancestor shape i (suc n))) ≡ cls (of_above i k n)
  unfolding sum
  above_body i k n there = go (ancestor shape i (suc n)) refl
    where
      away : (a : ℕ) → ancestor shape i (suc n) ≡ a → a ≡ i → ⊥
      away zero e f = let from : 1 ≤ i = there.there.from in omega (arith, f, from)
      away (suc a) e f =
          let fall : ancestor shape i (suc n) + suc n ≤ i = path_falls shape parents i (suc n) there.there.to (omega (arith, e)) in
          omega (arith, e, f, fall)

      body : (a : ℕ) → ancestor shape i (suc n) ≡ suc a → HasBody shape (suc a)
      body a e = subst (λ (t : ℕ). HasBody shape t) e (path_body shape parents i (suc n) there.there.to (omega (arith, e)))

      met : (a : ℕ) → (a ≡ i → ⊥) → met_columns g i k a ≡ g.count a
      met a h = ap (λ (b : Bool). if b then k + 1 else g.count a) (unequal a i h)

      others : (a n : ℕ) → (a ≡ i → ⊥) → cls (sum_of fracs n (of_pair i k a)) ≡ cls (sum_of fracs n (two_ways i k a))
      others a n h =
          cls-sum n (of_pair i k a)
          ∙ sum_ext qo n (λ l. cls (of_pair i k a l)) (λ l. cls (two_ways i k a l)) (λ l b. ap cls (pair-other i k a l (first_false (a == i) (l == k) (unequal a i h))))
          ∙ sym (cls-sum n (two_ways i k a))

      at_number : (a : ℕ) → ancestor shape i (suc n) ≡ a → cls (of_body i k a) ≡ cls (if a == 0 then fracs.nul else sum_of fracs (column_count (shape.kind a)) (two_ways i k a))
      at_number zero e =
          ap (λ (t : ℕ). cls (sum_of fracs t (of_pair i k 0))) (met 0 (away 0 e) ∙ within.world) ∙ cls-sum 0 (of_pair i k 0) ∙ sym cls-zero
      at_number (suc a) e =
          ap (λ (t : ℕ). cls (sum_of fracs t (of_pair i k (suc a)))) (met (suc a) (away (suc a) e) ∙ (within.each (suc a) (body a e)).count)
          ∙ others (suc a) (column_count (shape.kind (suc a))) (away (suc a) e)
          ∙ sym (ap (λ (b : Bool). cls (if b then fracs.nul else sum_of fracs (column_count (shape.kind (suc a))) (two_ways i k (suc a)))) (unequal (suc a) 0 (λ f. omega (arith, f))))

      go : (a : ℕ) → ancestor shape i (suc n) ≡ a → cls (of_body i k (ancestor shape i (suc n))) ≡ cls (of_above i k n)
      go a e = at_number (ancestor shape i (suc n)) refl

  last_body : (i k n : ℕ) → HasJointColumn shape i k → suc n ≡ shape.bodies → cls (of_above i k n) ≡ 0ℚ
  last_body i k n there e =
      let ends : ancestor shape i (suc n) ≡ 0 = ap (ancestor shape i) e ∙ path_ends shape parents i there.there.to in
      ap (λ (b : Bool). cls (if b then fracs.nul else sum_of fracs (column_count (shape.kind (ancestor shape i (suc n)))) (two_ways i k (ancestor shape i (suc n))))) (is_equal (ancestor shape i (suc n)) 0 ends) ∙ cls-zero

  column_is : (i k : ℕ) → HasJointColumn shape i k → cls (of_column i k) ≡ cls (add (own i k) (over_above shape i k (two_ways i k)))
  unfolding over_above
  column_is i k there =
      let earlier = sum qo k (λ l. cls (two_ways i k i l)) in
      let higher = sum qo shape.bodies (λ n. cls (of_above i k n)) in
      cls-sum shape.bodies (λ n. of_body i k (ancestor shape i n))
      ∙ shifted shape.bodies (λ n. cls (of_body i k (ancestor shape i n))) (λ n. cls (of_above i k n)) (let from : 1 ≤ i = there.there.from in let to : i ≤ shape.bodies = there.there.to in omega arith)
      (λ n b. above_body i k n there) (λ n e. last_body i k n there e)
      ∙ ap (λ (t : ℚ). t +ℚ higher) (first_body i k there)
      ∙ regrouped earlier (cls (own i k)) higher
      ∙ sym (cls_of_add (own i k) (add (sum_of fracs k (two_ways i k i)) (sum_of fracs shape.bodies (of_above i k)))
      ∙ ap (λ (t : ℚ). cls (own i k) +ℚ t)
      (cls_of_add (sum_of fracs k (two_ways i k i)) (sum_of fracs shape.bodies (of_above i k))
      ∙ ap₂ ◌+ℚ◌ (cls-sum k (two_ways i k i)) (cls-sum shape.bodies (of_above i k))))

  -- ---- all joint columns
  none_if : (b : Bool) (x : Frac) → b ≡ false → (if b then x else fracs.nul) ≡ fracs.nul
  none_if b x e = ap (λ (t : Bool). if t then x else fracs.nul) e

  no_column : (i k : ℕ) → (place i k == c) ≡ false → (place i k == d) ≡ false → Same fracs.nul (of_column i k)
  unfolding share
  no_column i k hc hd =
      exact fracs.nul (of_column i k) (cls-zero ∙ sym
      (cls-sum shape.bodies (λ n. of_body i k (ancestor shape i n))
      ∙ sum_none shape.bodies _ (λ n b. cls-sum (met_columns g i k (ancestor shape i n)) (of_pair i k (ancestor shape i n)) ∙ sum_none (met_columns g i k (ancestor shape i n)) _ (λ l r. one (ancestor shape i n) l (ancestor shape i n == i && l == k)))))
    where
      with_c : share shape m c i k ≡ fracs.nul
      with_c = none_if (place i k == c) (gear shape m i) hc

      with_d : share shape m d i k ≡ fracs.nul
      with_d = none_if (place i k == d) (gear shape m i) hd

      one : (a l : ℕ) (b : Bool) → cls (if b then own i k else two_ways i k a l) ≡ 0ℚ
      one a l true =
          ap₂ (λ (x y : Frac). cls (mul (mul x y) (pair i k i k))) with_c with_d ∙ sound (mul (mul fracs.nul fracs.nul) (pair i k i k)) fracs.nul (no_own (pair i k i k)) ∙ cls-zero
      one a l false =
          ap₂ (λ (x y : Frac). cls (mul (add (mul x (share shape m d a l)) (mul y (share shape m c a l))) (pair i k a l))) with_c with_d
          ∙ sound (mul (add (mul fracs.nul (share shape m d a l)) (mul fracs.nul (share shape m c a l))) (pair i k a l)) fracs.nul (no_two (share shape m d a l) (share shape m c a l) (pair i k a l)) ∙ cls-zero

  adds_column : (i k : ℕ) → HasJointColumn shape i k → Adds numbers (of_column i k) (add_column shape g w c d i k)
  adds_column i k there = go (place i k == c) (place i k == d) refl refl
    where
      go : (s t : Bool) → (place i k == c) ≡ s → (place i k == d) ≡ t
          → Adds numbers (of_column i k) (λ sum. if s || t then sweep (λ n. add_body shape g w c d i k (ancestor shape i n)) (upward 0 shape.bodies) sum else Ok sum)
      go true t e f = adds_walk i k there
      go false true e f = adds_walk i k there
      go false false e f = adds_same numbers fracs.nul (of_column i k) (λ sum. Ok sum) (no_column i k e f) (adds_nul numbers)

  adds_joint : (i : ℕ) → HasBody shape i → Adds numbers (sum_of fracs (column_count (shape.kind i)) (of_column i)) (add_joint shape g w c d i)
  adds_joint i there =
      subst (λ (t : ℕ). Adds numbers (sum_of fracs t (of_column i)) (add_joint shape g w c d i)) (within.each i there).count
      (subst (λ (ks : List ℕ). Adds numbers (sum_of fracs (g.count i) (of_column i)) (λ v. sweep (add_column shape g w c d i) ks v)) (sym (upward_all (g.count i)))
      (adds_up numbers (add_column shape g w c d i) (of_column i) 0 (g.count i) one))
    where
      one : (k : ℕ) → k < g.count i → Adds numbers (of_column i k) (add_column shape g w c d i (0 + k))
      one k b =
          let same : k ≡ 0 + k = omega arith in
          let count : g.count i ≡ column_count (shape.kind i) = (within.each i there).count in
          subst (λ (t : ℕ). Adds numbers (of_column i k) (add_column shape g w c d i t)) same (adds_column i k (record { there = there; below = omega (arith, b, count) }))

  adds_joints : Adds numbers (over_joints shape of_column) (λ v. sweep (add_joint shape g w c d) (upward 1 (shape.bodies + 1)) v)
  adds_joints =
      subst (λ (js : List ℕ). Adds numbers (over_joints shape of_column) (λ v. sweep (add_joint shape g w c d) js v)) (sym (upward_is shape.bodies))
      (adds_up numbers (add_joint shape g w c d) (λ i. sum_of fracs (column_count (shape.kind (suc i))) (of_column (suc i))) 1 shape.bodies one)
    where
      one : (i : ℕ) → i < shape.bodies → Adds numbers (sum_of fracs (column_count (shape.kind (suc i))) (of_column (suc i))) (add_joint shape g w c d (1 + i))
      one i b =
          let same : suc i ≡ 1 + i = omega arith in
          subst (λ (j : ℕ). Adds numbers (sum_of fracs (column_count (shape.kind (suc i))) (of_column (suc i))) (add_joint shape g w c d j)) same
          (adds_joint (suc i) (record { from = omega arith; to = omega arith }))

  gathered_is : Same (over_joints shape of_column) (gathered_once shape m pair c d)
  gathered_is =
      let once = λ (i k : ℕ). add (own i k) (over_above shape i k (two_ways i k)) in
      exact (over_joints shape of_column) (gathered_once shape m pair c d)
      (cls-over_joints shape of_column
      ∙ total_ext shape (λ i k. cls (of_column i k)) (λ i k. cls (once i k)) (λ i k there. column_is i k there)
      ∙ sym (cls-over_joints shape once))

  from_nothing : (x : Frac) → Same (add fracs.nul x) x
  from_nothing x = frac_ring (at (x ∷ [])) (expr.add expr.nul (var 0)) (var 0) refl

  pub entries_lie : (v : Interval) → entry_of shape g w c d ≡ Ok v → LiesIn (gathered_once shape m pair c d) v
  entries_lie v e =
      lies_in_same (over_joints shape of_column) (gathered_once shape m pair c d) v gathered_is
      (lies_in_same (add fracs.nul (over_joints shape of_column)) (over_joints shape of_column) v (from_nothing (over_joints shape of_column))
      (ok_met e (adds_joints.at fracs.nul zero_interval to_intervals.zero)))
