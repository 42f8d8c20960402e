-- The worked example, entry by entry.
use Rattle.std.proofs.Common.{◌≡◌, inl, inr, ℕ, zero, suc, ◌<◌, ◌≤◌, refl, subst, pos, arith}
use Rattle.rb_frac.specs.Frac as F
use Rattle.rb_frac.specs.Frac.{Frac, Same}
use Rattle.rb_frac.proofs.Reduce.{same_refl}
use Rattle.rb_elimination.specs.Paths.{IsColumn, IsRegular, IsAncestor, IsOn, IsSymmetric, IsZeroOffPaths}
use Rattle.rb_elimination.specs.Factors.{fraction_steps, AreFactors}
use Rattle.rb_elimination.specs.Solving.{IsReduced, IsDivided, IsSubstituted}
use Rattle.rb_elimination.specs.Laws.{ArePivots}
use Rattle.rb_elimination.specs.Examples.{above, corner, number, half, table, L, D, right, left, w, z, x, part, IsWorked}
use Rattle.rb_elimination.proofs.Paths.{has_above, on_above}

each : (P : ℕ → Type 0) → P 1 → P 2 → P 3 → (c : ℕ) → IsColumn 3 c → P c
each P a b d zero k = absurd (omega (arith, k.from))
each P a b d (suc zero) k = a
each P a b d (suc (suc zero)) k = b
each P a b d (suc (suc (suc zero))) k = d
each P a b d (suc (suc (suc (suc c)))) k = absurd (omega (arith, k.to))

each_below : (P : ℕ → Type 0) → P 0 → P 1 → P 2 → (c : ℕ) → c < 3 → P c
each_below P a b d zero l = a
each_below P a b d (suc zero) l = b
each_below P a b d (suc (suc zero)) l = d
each_below P a b d (suc (suc (suc c))) l = absurd (omega arith)

-- ---- the paths
no_ancestor : (d : ℕ) → IsAncestor above 1 d → ⊥
no_ancestor d a = let l : 1 ≤ 0 = has_above above 1 d a in absurd (omega arith)

on_first : (d : ℕ) → IsOn above 1 d → 1 ≡ d
on_first d (inl q) = q
on_first d (inr a) = absurd (no_ancestor d a)

one_is_column : 1 ≤ 1
one_is_column = omega arith

two_one : IsAncestor above 2 1
two_one = IsAncestor.next one_is_column

three_one : IsAncestor above 3 1
three_one = IsAncestor.next one_is_column

-- the one ancestor of column 2, and of column 3
from_two : (P : ℕ → Type 0) → P 1 → (d : ℕ) → IsAncestor above 2 d → P d
from_two P p d a = subst P (on_first d (on_above above 2 d a)) p

from_three : (P : ℕ → Type 0) → P 1 → (d : ℕ) → IsAncestor above 3 d → P d
from_three P p d a = subst P (on_first d (on_above above 3 d a)) p

on_two : (P : ℕ → Type 0) → P 2 → P 1 → (d : ℕ) → IsOn above 2 d → P d
on_two P p q d (inl e) = subst P e p
on_two P p q d (inr a) = from_two P q d a

on_one : (P : ℕ → Type 0) → P 1 → (d : ℕ) → IsOn above 1 d → P d
on_one P p d o = subst P (on_first d o) p

-- ---- the table
regular : IsRegular 3 above
regular = each (λ c. above c < c) (let e : 0 < 1 = omega arith in e) (let e : 1 < 2 = omega arith in e) (let e : 1 < 3 = omega arith in e)

symmetric : IsSymmetric 3 (corner (number 4))
symmetric c d k j =
    each (λ c. (d : ℕ) → IsColumn 3 d → Same (corner (number 4) c d) (corner (number 4) d c))
    (each (λ d. Same (corner (number 4) 1 d) (corner (number 4) d 1)) refl refl refl)
    (each (λ d. Same (corner (number 4) 2 d) (corner (number 4) d 2)) refl refl refl)
    (each (λ d. Same (corner (number 4) 3 d) (corner (number 4) d 3)) refl refl refl) c k d j

abbrev Off : ℕ → ℕ → Type 0
Off c d = ¬ IsOn above c d → ¬ IsOn above d c → Same (corner (number 4) c d) (number 0)

sparse : IsZeroOffPaths 3 above (corner (number 4))
sparse c d k j =
    each (λ c. (d : ℕ) → IsColumn 3 d → Off c d)
    (each (λ d. Off 1 d) (λ o p. absurd (o (inl refl))) (λ o p. absurd (p (inr two_one))) (λ o p. absurd (p (inr three_one))))
    (each (λ d. Off 2 d) (λ o p. absurd (o (inr two_one))) (λ o p. absurd (o (inl refl))) (λ o p. refl))
    (each (λ d. Off 3 d) (λ o p. absurd (o (inr three_one))) (λ o p. refl) (λ o p. absurd (o (inl refl)))) c k d j

-- ---- the factors
pivot_at : (c : ℕ) → c < 3 → Same (D (suc c)) (table (suc c) (suc c) (suc c))
pivot_at = each_below (λ c. Same (D (suc c)) (table (suc c) (suc c) (suc c))) (same_refl (half 1)) (same_refl (number 2)) (same_refl (number 3))

factor_two : Same (L 2 1) (F.quot (table 2 2 1) (D 2))
unfolding F.quot F.mul F.turn F.whole
factor_two = refl

factor_three : Same (L 3 1) (F.quot (table 3 3 1) (D 3))
unfolding F.quot F.mul F.turn F.whole
factor_three = refl

factor_at : (c : ℕ) → c < 3 → (d : ℕ) → IsAncestor above (suc c) d → Same (L (suc c) d) (F.quot (table (suc c) (suc c) d) (D (suc c)))
factor_at =
    each_below (λ c. (d : ℕ) → IsAncestor above (suc c) d → Same (L (suc c) d) (F.quot (table (suc c) (suc c) d) (D (suc c))))
    (λ d a. absurd (no_ancestor d a))
    (from_two (λ d. Same (L 2 d) (F.quot (table 2 2 d) (D 2))) factor_two)
    (from_three (λ d. Same (L 3 d) (F.quot (table 3 3 d) (D 3))) factor_three)

abbrev Update : ℕ → ℕ → ℕ → Type 0
Update c d e = Same (table c d e) (F.sub (table (suc c) d e) (F.mul (L (suc c) d) (table (suc c) (suc c) e)))

update_two : Update 1 1 1
unfolding F.sub F.add F.neg F.quot F.mul F.turn F.whole
update_two = refl

update_three : Update 2 1 1
unfolding F.sub F.add F.neg F.quot F.mul F.turn F.whole
update_three = refl

update_at : (c : ℕ) → c < 3 → (d : ℕ) → IsAncestor above (suc c) d → (e : ℕ) → IsOn above d e → Update c d e
update_at =
    each_below (λ c. (d : ℕ) → IsAncestor above (suc c) d → (e : ℕ) → IsOn above d e → Update c d e)
    (λ d a. absurd (no_ancestor d a))
    (from_two (λ d. (e : ℕ) → IsOn above d e → Update 1 d e) (on_one (λ e. Update 1 1 e) update_two))
    (from_three (λ d. (e : ℕ) → IsOn above d e → Update 2 d e) (on_one (λ e. Update 2 1 e) update_three))

abbrev Kept : (ℕ → ℕ → Type 0) → ℕ → Type 0
Kept P c = (d : ℕ) → IsColumn c d → ¬ IsAncestor above (suc c) d → P c d

-- of what is below columns 1, 2 and 3, only column 2 is no ancestor
kept_columns : (P : ℕ → ℕ → Type 0) → P 2 2 → (c : ℕ) → c < 3 → Kept P c
kept_columns P p = each_below (Kept P) (λ d k m. absurd (omega (arith, k.from, k.to))) below_two below_three
  where
    below_two : Kept P 1
    below_two zero k m = absurd (omega (arith, k.from))
    below_two (suc zero) k m = absurd (m two_one)
    below_two (suc (suc d)) k m = absurd (omega (arith, k.to))

    below_three : Kept P 2
    below_three zero k m = absurd (omega (arith, k.from))
    below_three (suc zero) k m = absurd (m three_one)
    below_three (suc (suc zero)) k m = p
    below_three (suc (suc (suc d))) k m = absurd (omega (arith, k.to))

factors : AreFactors fraction_steps 3 above (corner (number 4)) table L D
factors = record {
  first = λ c d k o. same_refl (corner (number 4) c d);
  pivots = pivot_at;
  quotients = λ c d l a. factor_at c l d a;
  updates = λ c d e l a o. update_at c l d a e o;
  others = λ c d e l k m o. kept_columns (λ c d. (e : ℕ) → IsOn above d e → Same (table c d e) (table (suc c) d e))
      (on_two (λ e. Same (table 2 2 e) (table 3 2 e)) (same_refl (number 2)) (same_refl (number 1))) c l d k m e o;
}

pivots : ArePivots 3 D
unfolding F.quot F.mul F.turn F.whole
pivots = each (λ c. ¬ ((D c).num ≡ pos 0)) (λ e. cc) (λ e. cc) (λ e. cc)

-- ---- the solution
left_two : Same (left 1 1) (F.sub (left 2 1) (F.mul (L 2 1) (w 2)))
unfolding F.sub F.add F.neg F.quot F.mul F.turn F.whole
left_two = refl

left_three : Same (left 2 1) (F.sub (left 3 1) (F.mul (L 3 1) (w 3)))
unfolding F.sub F.add F.neg F.quot F.mul F.turn F.whole
left_three = refl

left_at : (c : ℕ) → c < 3 → (d : ℕ) → IsAncestor above (suc c) d → Same (left c d) (F.sub (left (suc c) d) (F.mul (L (suc c) d) (w (suc c))))
left_at =
    each_below (λ c. (d : ℕ) → IsAncestor above (suc c) d → Same (left c d) (F.sub (left (suc c) d) (F.mul (L (suc c) d) (w (suc c)))))
    (λ d a. absurd (no_ancestor d a))
    (from_two (λ d. Same (left 1 d) (F.sub (left 2 d) (F.mul (L 2 d) (w 2)))) left_two)
    (from_three (λ d. Same (left 2 d) (F.sub (left 3 d) (F.mul (L 3 d) (w 3)))) left_three)

reduced : IsReduced fraction_steps 3 above L right left w
reduced = record {
  first = each (λ c. Same (left 3 c) (right c)) (same_refl (number 15)) (same_refl (number 5)) (same_refl (number 12));
  result = each (λ c. Same (w c) (left c c)) (same_refl (half 1)) (same_refl (number 5)) (same_refl (number 12));
  updates = λ c d l a. left_at c l d a;
  others = λ c d l k m. kept_columns (λ c d. Same (left c d) (left (suc c) d)) (same_refl (number 5)) c l d k m;
}

divided : IsDivided fraction_steps 3 above D w z
unfolding F.quot F.mul F.turn F.whole
divided = each (λ c. Same (z c) (F.quot (w c) (D c))) refl refl refl

part_two : Same (part 2 0) (F.sub (part 2 1) (F.mul (L 2 1) (x 1)))
unfolding F.sub F.add F.neg F.quot F.mul F.turn F.whole
part_two = refl

part_three : Same (part 3 0) (F.sub (part 3 1) (F.mul (L 3 1) (x 1)))
unfolding F.sub F.add F.neg F.quot F.mul F.turn F.whole
part_three = refl

substituted : IsSubstituted fraction_steps 3 above L z part x
substituted = record {
  first = each (λ c. Same (part c (above c)) (z c)) (same_refl (number 1)) (same_refl (half 5)) (same_refl (number 4));
  result = λ c k. same_refl (x c);
  updates = λ c d k a. each (λ c. (d : ℕ) → IsAncestor above c d → Same (part c (above d)) (F.sub (part c d) (F.mul (L c d) (x d))))
      (λ d a. absurd (no_ancestor d a))
      (from_two (λ d. Same (part 2 (above d)) (F.sub (part 2 d) (F.mul (L 2 d) (x d)))) part_two)
      (from_three (λ d. Same (part 3 (above d)) (F.sub (part 3 d) (F.mul (L 3 d) (x d)))) part_three) c k d a;
}

pub is_worked : IsWorked
is_worked = record {
  factored = record { regular = regular; symmetric = symmetric; sparse = sparse; factors = factors };
  pivots = pivots;
  reduced = reduced;
  divided = divided;
  substituted = substituted;
}
