-- The steps over intervals keep equality, and that fractions lie in intervals.
use Rattle.std.proofs.Common.{◌≡◌, pos, ◌*ℤ◌, ◌≤ℤ◌, arith, List, [], ◌∷◌, Ok, refl, sym, ◌∙◌, subst}
use Rattle.std.proofs.lemmas.Int.{ints}
use Rattle.std.proofs.lemmas.Result.{IfOk-at_ok}
use Rattle.rb_frac.specs.Frac as F
use Rattle.rb_frac.specs.Frac.{Frac, Same, fracs}
use Rattle.rb_frac.specs.Pairs.{dot}
use Rattle.rb_frac.proofs.Reduce.{same_sym, same_trans}
use Rattle.rb_frac.proofs.Ring.{expr, var, plus, minus, times}
use Rattle.rb_frac.proofs.Vec.{nth}
use Rattle.rb_frac.proofs.Hom.{frac_ring}
use Rattle.rb_result.proofs.Results.{same_ok}
use Rattle.rb_num.specs.Interval.{Interval, one_interval, negative_of, grid}
use Rattle.rb_num.specs.Refusing.{iv_div}
use Rattle.rb_num.specs.Quotient.{HasZero}
use Rattle.rb_num.specs.Fraction.{LiesIn}
use Rattle.rb_num.proofs.Bridges.{one_lies, to_intervals, ok_met}
use Rattle.rb_num.proofs.Relates.{dot_met}
use Rattle.rb_num.proofs.Fractions.{neg_lies, quot_lies}
use Rattle.rb_num.proofs.Refused.{if_divided}
use Rattle.rb_num.proofs.Quotients.{cancel_pos}
use Rattle.rb_num.proofs.Same.{lies_in_same}
use Rattle.rb_elimination.specs.Factors.{fraction_steps}
use Rattle.rb_elimination.proofs.Related.{StepsRelate}
use Rattle.rb_factor.specs.Steps.{lessened, interval_steps}

-- ---- equality
unfoldable pub intervals_same : StepsRelate interval_steps interval_steps
intervals_same = record {
  rel = λ x y. x ≡ y;
  equal = λ x y x' y' h h' k. h ∙ k ∙ sym h';
  lessened = λ a l b r a' l' b' r' h h' p q k. same_ok r r' (sym h ∙ rw (p, q, k) h');
  quotient = λ a b q a' b' q' h h' p k. same_ok q q' (sym h ∙ rw (p, k) h');
}

-- ---- fractions in intervals
dot_is : (a l b : Frac) → Same (dot fracs ((a, fracs.one) ∷ (F.neg l, b) ∷ [])) (F.sub a (F.mul l b))
unfolding dot F.sub
dot_is a l b =
    frac_ring (nth a (a ∷ l ∷ b ∷ [])) (dot expr ((var 0, expr.one) ∷ (minus (var 1), var 2) ∷ [])) (plus (var 0) (minus (times (var 1) (var 2)))) refl

pub lessened_lies : (a l b r : Frac) (a' l' b' r' : Interval) → Same r (F.sub a (F.mul l b)) → lessened a' l' b' ≡ Ok r' → LiesIn a a' → LiesIn l l' → LiesIn b b' → LiesIn r r'
lessened_lies a l b r a' l' b' r' h h' p q k =
    let pairs : List (Frac × Frac) = (a, fracs.one) ∷ (F.neg l, b) ∷ [] in
    let lies : LiesIn (dot fracs pairs) r' =
    ok_met h' (dot_met to_intervals pairs ((a', one_interval) ∷ (negative_of l', b') ∷ []) (p, one_lies, (neg_lies l l' q, k, tt))) in
    let same : Same (dot fracs pairs) r =
    same_trans (dot fracs pairs) (F.sub a (F.mul l b)) r (dot_is a l b) (same_sym r (F.sub a (F.mul l b)) h) in
    lies_in_same (dot fracs pairs) r r' same lies

pub quotient_lies : (a b q : Frac) (a' b' q' : Interval) → Same q (F.quot a b) → iv_div a' b' ≡ Ok q' → LiesIn a a' → LiesIn b b' → LiesIn q q'
quotient_lies a b q a' b' q' h h' p k =
    let lies : LiesIn (F.quot a b) q' = IfOk-at_ok _ h' (if_divided a' b' (λ t. LiesIn (F.quot a b) t) (quot_lies a b a' b' p k)) in
    lies_in_same (F.quot a b) q q' (same_sym q (F.quot a b) h) lies

unfoldable pub fractions_lie : StepsRelate fraction_steps interval_steps
fractions_lie = record {
  rel = LiesIn;
  equal = λ x y x' y' h h' k. lies_in_same y x x' (same_sym x y h) (subst (λ v. LiesIn y v) (sym h') k);
  lessened = lessened_lies;
  quotient = quotient_lies;
}

-- what lies in an interval without zero is not zero
pub nonzero : (x : Frac) (v : Interval) → LiesIn x v → ¬ HasZero v → ¬ (x.num ≡ pos 0)
nonzero x v h n e =
    let above : (v.lo *ℤ pos x.den) ≤ℤ (pos 0 *ℤ pos grid) = subst (λ m. (v.lo *ℤ pos x.den) ≤ℤ (m *ℤ pos grid)) e h.above in
    let below : (pos 0 *ℤ pos grid) ≤ℤ (v.hi *ℤ pos x.den) = subst (λ m. (m *ℤ pos grid) ≤ℤ (v.hi *ℤ pos x.den)) e h.below in
    n (record {
      low = cancel_pos v.lo (pos 0) x.den x.some (omega (arith, ints, above));
      high = cancel_pos (pos 0) v.hi x.den x.some (omega (arith, ints, below));
    })
