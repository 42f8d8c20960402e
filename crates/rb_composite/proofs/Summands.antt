-- Numbers and inertias, as what a sweep adds.
use Rattle.std.proofs.Common.{◌≡◌, ℕ, suc, [], ◌∷◌, refl}
use Rattle.rb_frac.specs.Ops.{V3, sum}
use Rattle.rb_frac.specs.Frac.{Frac, Same, fracs, add}
use Rattle.rb_frac.specs.Tables.{Symmetric, Vectors, Symmetrics}
use Rattle.rb_frac.specs.Spatial.{Inertia, Inertias}
use Rattle.rb_frac.proofs.Ring.{expr, var}
use Rattle.rb_frac.proofs.Reduce.{same_refl, same_sym, same_trans}
use Rattle.rb_frac.proofs.Rational.{add_same}
use Rattle.rb_frac.proofs.Hom.{frac_ring}
use Rattle.rb_frac.proofs.Variables.{at}
use Rattle.rb_frac.proofs.Sums.{sum-zero, sum-suc}
use Rattle.rb_num.specs.Interval.{Interval}
use Rattle.rb_num.specs.Fraction.{LiesIn}
use Rattle.rb_num.specs.Arith.{fractions}
use Rattle.rb_num.proofs.Same.{lies_in_same}
use Rattle.rb_spatial.specs.Motions.{sum_vector}
use Rattle.rb_spatial.specs.Inertias.{sum as sum_of_two, sum_table, sum_symmetric}
use Rattle.rb_composite.specs.Composite.{no_inertia, inertia_sum}
use Rattle.rb_composite.proofs.Exists.{inertias_same}
use Rattle.rb_composite.proofs.Adding.{Sums}

-- ---- numbers
pub add-nul : (x : Frac) → Same (add x fracs.nul) x
add-nul x = frac_ring (at (x ∷ [])) (expr.add (var 0) expr.nul) (var 0) refl

pub grouped : (x y z : Frac) → Same (add (add x y) z) (add x (add y z))
grouped x y z =
    frac_ring (at (x ∷ y ∷ z ∷ [])) (expr.add (expr.add (var 0) (var 1)) (var 2)) (expr.add (var 0) (expr.add (var 1) (var 2))) refl

pub swapped : (x y z : Frac) → Same (add (add x y) z) (add x (add z y))
swapped x y z =
    frac_ring (at (x ∷ y ∷ z ∷ [])) (expr.add (expr.add (var 0) (var 1)) (var 2)) (expr.add (var 0) (expr.add (var 2) (var 1))) refl

abbrev pub numbers : Sums LiesIn
numbers = record {
  same = Same;
  plus = add;
  nul = fracs.nul;
  total = sum fracs;
  itself = same_refl;
  back = same_sym;
  along = same_trans;
  moved = lies_in_same;
  plus_same = add_same;
  plus_nul = add-nul;
  grouped = grouped;
  swapped = swapped;
  total_zero = sum-zero fracs;
  total_suc = sum-suc fracs;
}

-- ---- inertias, entry by entry
module _ (f : Frac → Frac → Frac → Frac) where
  abbrev vector_of : V3 Frac → V3 Frac → V3 Frac → V3 Frac
  vector_of u v w = record { x = f u.x v.x w.x; y = f u.y v.y w.y; z = f u.z v.z w.z }

  abbrev symmetric_of : Symmetric Frac → Symmetric Frac → Symmetric Frac → Symmetric Frac
  symmetric_of s t u = record {
    xx = f s.xx t.xx u.xx;
    xy = f s.xy t.xy u.xy;
    xz = f s.xz t.xz u.xz;
    yy = f s.yy t.yy u.yy;
    yz = f s.yz t.yz u.yz;
    zz = f s.zz t.zz u.zz;
  }

  abbrev inertia_of : Inertia Frac → Inertia Frac → Inertia Frac → Inertia Frac
  inertia_of i j k = record {
    a = symmetric_of i.a j.a k.a;
    b = record { x = vector_of i.b.x j.b.x k.b.x; y = vector_of i.b.y j.b.y k.b.y; z = vector_of i.b.z j.b.z k.b.z };
    c = symmetric_of i.c j.c k.c;
  }

module _ (f g : Frac → Frac → Frac → Frac) (h : (x y z : Frac) → Same (f x y z) (g x y z)) where
  vectors_by : (u v w : V3 Frac) → Vectors Same (vector_of f u v w) (vector_of g u v w)
  vectors_by u v w = record { x = h u.x v.x w.x; y = h u.y v.y w.y; z = h u.z v.z w.z }

  symmetrics_by : (s t u : Symmetric Frac) → Symmetrics Same (symmetric_of f s t u) (symmetric_of g s t u)
  symmetrics_by s t u = record {
    xx = h s.xx t.xx u.xx;
    xy = h s.xy t.xy u.xy;
    xz = h s.xz t.xz u.xz;
    yy = h s.yy t.yy u.yy;
    yz = h s.yz t.yz u.yz;
    zz = h s.zz t.zz u.zz;
  }

  inertias_by : (i j k : Inertia Frac) → Inertias Same (inertia_of f i j k) (inertia_of g i j k)
  inertias_by i j k = record {
    a = symmetrics_by i.a j.a k.a;
    b = record { x = vectors_by i.b.x j.b.x k.b.x; y = vectors_by i.b.y j.b.y k.b.y; z = vectors_by i.b.z j.b.z k.b.z };
    c = symmetrics_by i.c j.c k.c;
  }

pub inertia_grouped : (i j k : Inertia Frac) → Inertias Same (sum_of_two fractions (sum_of_two fractions i j) k) (sum_of_two fractions i (sum_of_two fractions j k))
unfolding sum_of_two sum_table sum_symmetric sum_vector
inertia_grouped i j k = inertias_by (λ x y z. add (add x y) z) (λ x y z. add x (add y z)) grouped i j k

pub inertia_swapped : (i j k : Inertia Frac) → Inertias Same (sum_of_two fractions (sum_of_two fractions i j) k) (sum_of_two fractions i (sum_of_two fractions k j))
unfolding sum_of_two sum_table sum_symmetric sum_vector
inertia_swapped i j k = inertias_by (λ x y z. add (add x y) z) (λ x y z. add x (add z y)) swapped i j k

pub inertia_alone : (i : Inertia Frac) → Inertias Same (sum_of_two fractions i no_inertia) i
unfolding sum_of_two sum_table sum_symmetric sum_vector
inertia_alone i = inertias_by (λ x y z. add x fracs.nul) (λ x y z. x) (λ x y z. add-nul x) i i i

-- ---- two inertias that are related to a third
module _ {A B C : Type 0} {r : A → B → Type 0} {s : A → C → Type 0} {t : B → C → Type 0} (next : (x : A) (y : B) (z : C) → r x y → s x z → t y z) where
  vectors_next : {u : V3 A} {v : V3 B} {w : V3 C} → Vectors r u v → Vectors s u w → Vectors t v w
  vectors_next h k = record { x = next _ _ _ h.x k.x; y = next _ _ _ h.y k.y; z = next _ _ _ h.z k.z }

  symmetrics_next : {u : Symmetric A} {v : Symmetric B} {w : Symmetric C} → Symmetrics r u v → Symmetrics s u w → Symmetrics t v w
  symmetrics_next h k = record {
    xx = next _ _ _ h.xx k.xx;
    xy = next _ _ _ h.xy k.xy;
    xz = next _ _ _ h.xz k.xz;
    yy = next _ _ _ h.yy k.yy;
    yz = next _ _ _ h.yz k.yz;
    zz = next _ _ _ h.zz k.zz;
  }

  inertias_next : {i : Inertia A} {j : Inertia B} {k : Inertia C} → Inertias r i j → Inertias s i k → Inertias t j k
  inertias_next h k = record {
    a = symmetrics_next h.a k.a;
    b = record { x = vectors_next h.b.x k.b.x; y = vectors_next h.b.y k.b.y; z = vectors_next h.b.z k.b.z };
    c = symmetrics_next h.c k.c;
  }

same_next : (x y z : Frac) → Same x y → Same x z → Same y z
same_next x y z h k = same_trans y x z (same_sym x y h) k

pub inertias_back : (i j : Inertia Frac) → Inertias Same i j → Inertias Same j i
inertias_back i j h = inertias_next same_next h (inertias_same i)

pub inertias_along : (i j k : Inertia Frac) → Inertias Same i j → Inertias Same j k → Inertias Same i k
inertias_along i j k h l = inertias_next same_next (inertias_back i j h) l

pub inertias_moved : (i j : Inertia Frac) (v : Inertia Interval) → Inertias Same i j → Inertias LiesIn i v → Inertias LiesIn j v
inertias_moved i j v h l = inertias_next lies_in_same h l

-- ---- sums of the same
vectors_sum : {u u' w w' : V3 Frac} → Vectors Same u u' → Vectors Same w w' → Vectors Same (sum_vector fractions u w) (sum_vector fractions u' w')
unfolding sum_vector
vectors_sum h k =
    record { x = add_same _ _ _ _ h.x k.x; y = add_same _ _ _ _ h.y k.y; z = add_same _ _ _ _ h.z k.z }

symmetrics_sum : {s s' t t' : Symmetric Frac} → Symmetrics Same s s' → Symmetrics Same t t' → Symmetrics Same (sum_symmetric fractions s t) (sum_symmetric fractions s' t')
unfolding sum_symmetric
symmetrics_sum h k = record {
  xx = add_same _ _ _ _ h.xx k.xx;
  xy = add_same _ _ _ _ h.xy k.xy;
  xz = add_same _ _ _ _ h.xz k.xz;
  yy = add_same _ _ _ _ h.yy k.yy;
  yz = add_same _ _ _ _ h.yz k.yz;
  zz = add_same _ _ _ _ h.zz k.zz;
}

pub inertias_sum : (i i' j j' : Inertia Frac) → Inertias Same i i' → Inertias Same j j' → Inertias Same (sum_of_two fractions i j) (sum_of_two fractions i' j')
unfolding sum_of_two sum_table
inertias_sum i i' j j' h k = record {
  a = symmetrics_sum h.a k.a;
  b = record { x = vectors_sum h.b.x k.b.x; y = vectors_sum h.b.y k.b.y; z = vectors_sum h.b.z k.b.z };
  c = symmetrics_sum h.c k.c;
}

pub inertia_sum-zero : (f : ℕ → Inertia Frac) → inertia_sum 0 f ≡ no_inertia
unfolding inertia_sum
inertia_sum-zero f = refl

pub inertia_sum-suc : (n : ℕ) (f : ℕ → Inertia Frac) → inertia_sum (suc n) f ≡ sum_of_two fractions (inertia_sum n f) (f n)
unfolding inertia_sum
inertia_sum-suc n f = refl

abbrev pub inertias : Sums (Inertias LiesIn)
inertias = record {
  same = Inertias Same;
  plus = sum_of_two fractions;
  nul = no_inertia;
  total = inertia_sum;
  itself = inertias_same;
  back = inertias_back;
  along = inertias_along;
  moved = inertias_moved;
  plus_same = inertias_sum;
  plus_nul = inertia_alone;
  grouped = inertia_grouped;
  swapped = inertia_swapped;
  total_zero = inertia_sum-zero;
  total_suc = inertia_sum-suc;
}
