-- What each operation encloses: the facts that the clauses `encloses` state.
use Rattle.std.proofs.Common.{◌≡◌, ℕ, zero, suc, ℤ, pos, negsuc, ◌<◌, ◌≤ℤ◌, List, Result, Ok, Err, IfOk, OkIff, sym, arith, subst}
use Rattle.std.proofs.lemmas.Int.{ints}
use Rattle.rb_frac.specs.Frac as F
use Rattle.rb_frac.specs.Frac.{Frac, fracs}
use Rattle.rb_frac.specs.Pairs.{dot, PairsRelate}
use Rattle.rb_num.specs.Interval.{Interval, negative_of, sum_of, difference_of}
use Rattle.rb_num.specs.Dot.{dot_of}
use Rattle.rb_num.specs.Quotient.{HasZero, quotient_of}
use Rattle.rb_num.specs.Fraction.{LiesIn, EnclosesSum, EnclosesDifference, EnclosesNegative, EnclosesQuotient, EnclosesDot}
use Rattle.rb_num.proofs.Encloses.{dot_encloses, negative_encloses, sum_encloses}
use Rattle.rb_num.proofs.Quotient.{Lies, by_positive, by_negative}
use Rattle.rb_num.proofs.Quotients.{cancel_pos}

-- ---- fractions that lie in intervals
pub dot_lies : (ps : List (Frac × Frac)) (vs : List (Interval × Interval)) → PairsRelate LiesIn ps vs → LiesIn (dot fracs ps) (dot_of vs)
dot_lies ps vs h = dot_encloses vs ps h

pub neg_lies : (x : Frac) (v : Interval) → LiesIn x v → LiesIn (F.neg x) (negative_of v)
neg_lies = negative_encloses

pub add_lies : (x y : Frac) (v w : Interval) → LiesIn x v → LiesIn y w → LiesIn (F.add x y) (sum_of v w)
add_lies = sum_encloses

pub sub_lies : (x y : Frac) (v w : Interval) → LiesIn x v → LiesIn y w → LiesIn (F.add x (F.neg y)) (difference_of v w)
sub_lies x y v w h k = add_lies x (F.neg y) v (negative_of w) h (neg_lies y w k)

pub quot_lies : (x y : Frac) (v w : Interval) → LiesIn x v → LiesIn y w → ¬ HasZero w → LiesIn (F.quot x y) (quotient_of v w)
unfolding F.quot F.mul F.turn
quot_lies x y v w h k n = go y.num y.den y.some record { above = k.above; below = k.below }
  where
    f : Lies x.num x.den v
    f = record { above = h.above; below = h.below }

    go : (m : ℤ) (e : ℕ) → 0 < e → Lies m e w → LiesIn (F.mul x (F.turn m e)) (quotient_of v w)
    go (pos (suc m)) e s k = let q = by_positive v w.lo w.hi x.num (suc m) x.den e s n f k in record { above = q.above; below = q.below }
    go (negsuc m) e s k = let q = by_negative v w.lo w.hi x.num m x.den e s n f k in record { above = q.above; below = q.below }
    go (pos zero) e s k =
        let low : w.lo ≤ℤ pos 0 = cancel_pos w.lo (pos 0) e s (omega (arith, ints, k.above)) in
        let high : pos 0 ≤ℤ w.hi = cancel_pos (pos 0) w.hi e s (omega (arith, ints, k.below)) in
        absurd (n record { low = low; high = high })

-- ---- the same, as the clauses say it
pub encloses_negative : (a v : Interval) → v ≡ negative_of a → EnclosesNegative a v
encloses_negative a v e = record { at = λ x h. subst (λ (t : Interval). LiesIn (F.neg x) t) (sym e) (neg_lies x a h) }

pub sum_result : {E : Type 0} (r : Result Interval E) (P : Type 0) (a b : Interval) → OkIff r P (sum_of a b) → IfOk r (EnclosesSum a b)
sum_result (Ok v) P a b h = record { at = λ x y i j. subst (λ (t : Interval). LiesIn (F.add x y) t) (sym h.1) (add_lies x y a b i j) }
sum_result (Err e) P a b h = tt

pub difference_result : {E : Type 0} (r : Result Interval E) (P : Type 0) (a b : Interval) → OkIff r P (difference_of a b) → IfOk r (EnclosesDifference a b)
unfolding F.sub
difference_result (Ok v) P a b h = record { at = λ x y i j. subst (λ (t : Interval). LiesIn (F.sub x y) t) (sym h.1) (sub_lies x y a b i j) }
difference_result (Err e) P a b h = tt

pub dot_encloses_at : (ps : List (Interval × Interval)) (v : Interval) → v ≡ dot_of ps → EnclosesDot ps v
dot_encloses_at ps v e = record { at = λ xs h. subst (λ (t : Interval). LiesIn (dot fracs xs) t) (sym e) (dot_lies xs ps h) }

pub quotient_encloses : (a b v : Interval) → ¬ HasZero b → v ≡ quotient_of a b → EnclosesQuotient a b v
quotient_encloses a b v n e = record { at = λ x y h k. subst (λ (t : Interval). LiesIn (F.quot x y) t) (sym e) (quot_lies x y a b h k n) }
