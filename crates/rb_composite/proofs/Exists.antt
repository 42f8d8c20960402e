-- Every tree has composite inertias, entries of pairs, and the table that they give.
use Rattle.std.proofs.Common.{◌≡◌, ℕ, zero, suc, ◌-◌, ◌<◌, ◌≤◌, ◌==◌, Bool, true, false, if◌then◌else◌, refl, sym, ◌∙◌, ap, subst, arith}
use mathlib.Core.Path.{ap₂}
use Rattle.rb_frac.specs.Ops.{V3}
use Rattle.rb_frac.specs.Frac.{Frac, Same, fracs}
use Rattle.rb_frac.specs.Tables.{Table, Symmetric, Vectors, Tables, Symmetrics}
use Rattle.rb_frac.specs.Spatial.{Inertia, Inertias}
use Rattle.rb_frac.proofs.Reduce.{same_refl}
use Rattle.rb_frac.proofs.Rational.{cls, exact, cls-rep, cls-zero}
use Rattle.rb_num.specs.Arith.{fractions}
use Rattle.rb_spatial.specs.Motions.{power as rule_power}
use Rattle.rb_spatial.specs.Inertias.{times, sum as sum_of_two}
use Rattle.rb_spatial.specs.Carrying.{carry}
use Rattle.rb_flat.specs.Shape.{Shape, HasBody, ParentsComeFirst}
use Rattle.rb_flat.specs.Mechanism.{Mechanism}
use Rattle.rb_composite.specs.Composite.{ancestor, no_inertia, inertia_sum, own_inertia, children_inertia, AreComposites, carried, ArePairs, gathered, IsCompositeTable}
use Rattle.rb_composite.specs.Laws.{HasCompositeTable}
use Rattle.rb_composite.proofs.Forms.{power-by_rule}
use Rattle.rb_composite.proofs.Pairs.{joined, joined-swap, joined-apart, joined-above}

vectors_same : (v : V3 Frac) → Vectors Same v v
vectors_same v = record { x = same_refl v.x; y = same_refl v.y; z = same_refl v.z }

tables_same : (t : Table Frac) → Tables Same t t
tables_same t = record { x = vectors_same t.x; y = vectors_same t.y; z = vectors_same t.z }

symmetrics_same : (s : Symmetric Frac) → Symmetrics Same s s
symmetrics_same s = record { xx = same_refl s.xx; xy = same_refl s.xy; xz = same_refl s.xz; yy = same_refl s.yy; yz = same_refl s.yz; zz = same_refl s.zz }

pub inertias_same : (i : Inertia Frac) → Inertias Same i i
inertias_same i = record { a = symmetrics_same i.a; b = tables_same i.b; c = symmetrics_same i.c }

inertia_sum_ext : (n : ℕ) (f g : ℕ → Inertia Frac) → ((k : ℕ) → k < n → f k ≡ g k) → inertia_sum n f ≡ inertia_sum n g
unfolding inertia_sum
inertia_sum_ext zero f g h = refl
inertia_sum_ext (suc n) f g h = ap₂ (sum_of_two fractions) (inertia_sum_ext n f g (λ k l. h k (omega arith))) (h n (omega arith))

module _ (shape : Shape) (m : Mechanism Frac) (parents : ParentsComeFirst shape) where
  -- ---- composites, from the last body up
  -- of a body with at most so many generations below it
  bearing : ℕ → ℕ → Inertia Frac
  bearing zero i = no_inertia
  bearing (suc n) i = sum_of_two fractions (own_inertia shape m i) (children_inertia shape m (bearing n) i)

  pub same_children : (i : ℕ) (f g : ℕ → Inertia Frac) → ((k : ℕ) → HasBody shape k → shape.parent k ≡ i → f k ≡ g k) → children_inertia shape m f i ≡ children_inertia shape m g i
  unfolding children_inertia
  same_children i f g h = inertia_sum_ext shape.bodies _ _ (λ k l. child k l (shape.parent (suc k) == i) refl)
    where
      child : (k : ℕ) → k < shape.bodies → (b : Bool) → (shape.parent (suc k) == i) ≡ b
          → (if b then carry fractions (m.place (suc k)) (f (suc k)) else no_inertia) ≡ (if b then carry fractions (m.place (suc k)) (g (suc k)) else no_inertia)
      child k l true e =
          let same : shape.parent (suc k) ≡ i = grind arith in
          ap (carry fractions (m.place (suc k))) (h (suc k) (record { from = omega arith; to = omega arith }) same)
      child k l false e = refl

  -- a child comes later
  later : (i j n : ℕ) → HasBody shape j → shape.parent j ≡ i → shape.bodies - i < suc n → shape.bodies - j < n
  later i j n there e l =
      let b : shape.parent j < j = parents j there in
      let h : j ≤ shape.bodies = there.to in
      omega arith

  enough : (n k i : ℕ) → HasBody shape i → shape.bodies - i < n → shape.bodies - i < k → bearing n i ≡ bearing k i
  unfolding bearing
  enough zero k i h l r = absurd (omega arith)
  enough (suc n) zero i h l r = absurd (omega arith)
  enough (suc n) (suc k) i h l r =
      ap (sum_of_two fractions (own_inertia shape m i))
      (same_children i (bearing n) (bearing k) (λ j there e. enough n k j there (later i j n there e l) (later i j k there e r)))

  composite_of : ℕ → Inertia Frac
  composite_of = bearing (suc shape.bodies)

  composite-is : (i : ℕ) → HasBody shape i → composite_of i ≡ sum_of_two fractions (own_inertia shape m i) (children_inertia shape m composite_of i)
  unfolding composite_of bearing
  composite-is i there =
      ap (sum_of_two fractions (own_inertia shape m i))
      (same_children i (bearing shape.bodies) (bearing (suc shape.bodies)) (λ j at e. enough shape.bodies (suc shape.bodies) j at (before j at) (before' j at)))
    where
      before : (j : ℕ) → HasBody shape j → shape.bodies - j < shape.bodies
      before j at = omega (arith, at.from, at.to)

      before' : (j : ℕ) → HasBody shape j → shape.bodies - j < suc shape.bodies
      before' j at = omega arith

  are_composites : AreComposites shape m composite_of
  are_composites = record {
    each = λ i there. subst (λ (x : Inertia Frac). Inertias Same (composite_of i) x) (composite-is i there) (inertias_same (composite_of i));
  }

  -- ---- entries of pairs
  pair_of : ℕ → ℕ → ℕ → ℕ → Frac
  pair_of i k j l = (joined shape m composite_of i j (m.column i k) (m.column j l)).rep

  pair-is : (i k j l : ℕ) → cls (pair_of i k j l) ≡ joined shape m composite_of i j (m.column i k) (m.column j l)
  unfolding pair_of
  pair-is i k j l = cls-rep (joined shape m composite_of i j (m.column i k) (m.column j l))

  are_pairs : ArePairs shape m composite_of pair_of
  are_pairs = record {
    met = λ j k n l hj ha.
        let a = ancestor shape j n in
        let f = carried shape m j (times fractions (composite_of j) (m.column j k)) n in
        exact (pair_of j k a l) (rule_power fractions (m.column a l) f)
        (pair-is j k a l
        ∙ joined-above shape m composite_of parents j n (m.column j k) (m.column a l) hj.there ha.there.from
        ∙ sym (power-by_rule (m.column a l) f));
    symmetric = λ i k j l hi hj.
        exact (pair_of i k j l) (pair_of j l i k)
        (pair-is i k j l ∙ joined-swap shape m composite_of i j (m.column i k) (m.column j l) ∙ sym (pair-is j l i k));
    apart = λ i k j l hi hj h.
        exact (pair_of i k j l) fracs.nul
        (pair-is i k j l ∙ joined-apart shape m composite_of parents i j (m.column i k) (m.column j l) h ∙ sym cls-zero);
  }

  is_composite_table : IsCompositeTable shape m (gathered shape m pair_of)
  is_composite_table = record {
    inertia = composite_of;
    pair = pair_of;
    composites = are_composites;
    pairs = are_pairs;
    entry = λ c d hc hd. same_refl (gathered shape m pair_of c d);
  }

  pub composite_table : (table : ℕ → ℕ → Frac) × IsCompositeTable shape m table
  composite_table = (gathered shape m pair_of, is_composite_table)

pub has_composite_table : HasCompositeTable
has_composite_table shape m parents = composite_table shape m parents
