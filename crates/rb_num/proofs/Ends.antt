-- The ends of an interval in the code, read from their 128 bits: they are the numbers that they stand for.
use Rattle.std.proofs.Common.{◌≡◌, ℤ, OkIff, Result, Ok, Err, subst, sym, refl, to_z, of_z, ap, ◌∙◌, arith}
use Rattle.std.proofs.lemmas.Int.{ints, to_z-of_z}
use mir.Syntax.{w128}
use mir.Val.{SFits}
use Rattle.std.specs.Result.{IsErr}
use Rattle.rb_num.specs.Interval.{Interval, IsInterval, EndsFit, interval}

pub at_ends : {E : Type 0} (r : Result Interval E) (a b c d : ℤ) → OkIff r (EndsFit (interval a b)) (interval a b) → a ≡ c → b ≡ d → OkIff r (EndsFit (interval c d)) (interval c d)
at_ends r a b c d h p q =
    subst (λ (y : ℤ). OkIff r (EndsFit (interval c y)) (interval c y)) q (subst (λ (x : ℤ). OkIff r (EndsFit (interval x b)) (interval x b)) p h)

-- an error, where what is asked for an `Ok` does not hold
pub refuses : {T E : Type 0} (r : Result T E) (P : Type 0) (v : T) → IsErr r → (P → ⊥) → OkIff r P v
refuses (Ok x) P v e n = absurd (cc)
refuses (Err y) P v e n = n

-- a number that fits is what its bits read as
pub read : (z : ℤ) {y : ℤ} → SFits w128 z → z ≡ y → to_z w128 (of_z w128 z) ≡ y
read z f e = to_z-of_z w128 z f ∙ e

-- the ends of an opened interval, read from their bits
pub record EndsAre (a b : ℤ) (v : Interval) : Type 0 where
  pub lo : to_z w128 (of_z w128 a) ≡ v.lo
  pub hi : to_z w128 (of_z w128 b) ≡ v.hi
  pub whole : IsInterval v.lo v.hi

pub ends_are : {lo hi : ℤ} {v : Interval} → IsInterval lo hi → interval lo hi ≡ v → EndsAre lo hi v
ends_are {lo} {hi} {v} h e = record {
  lo = read lo (omega (arith, ints, h)) (ap (λ (x : Interval). x.lo) e);
  hi = read hi (omega (arith, ints, h)) (ap (λ (x : Interval). x.hi) e);
  whole = subst (λ (x : Interval). IsInterval x.lo x.hi) e h;
}

-- numbers that read as the ends of v make v
pub record Made (v : Interval) (a b : ℤ) : Type 0 where
  pub invariant : IsInterval a b
  pub value : interval a b ≡ v

pub made : (v : Interval) (r q : ℤ) → IsInterval v.lo v.hi → r ≡ v.lo → q ≡ v.hi → Made v (to_z w128 (of_z w128 r)) (to_z w128 (of_z w128 q))
made v r q h e f =
    subst (λ (x : ℤ). Made v x (to_z w128 (of_z w128 q))) (sym (read r (omega (arith, ints, h)) e))
    (subst (λ (y : ℤ). Made v v.lo y) (sym (read q (omega (arith, ints, h)) f)) (record { invariant = h; value = refl }))

pub both : (f : ℤ → ℤ → ℤ) {a b c d : ℤ} → a ≡ c → b ≡ d → f a b ≡ f c d
both f {a} {b} {c} {d} p q = ap (λ (t : ℤ). f t b) p ∙ ap (f c) q
