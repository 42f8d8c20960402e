-- The hull and the meet, as the code makes them, and what they enclose.
use Rattle.std.proofs.Common.{◌≡◌, ℤ, pos, ◌*ℤ◌, ◌≤ℤ◌, Some, None, arith, sym, subst, ◌∙◌, to_z, of_z}
use Rattle.std.proofs.lemmas.Int.{ints, clamps}
use Rattle.std.specs.Int.{int_min, int_max}
use Rattle.std.specs.Option.{IsSomeAnd}
use mir.Syntax.{w128}
use Rattle.rb_num.specs.Interval.{Interval, grid}
use Rattle.rb_num.specs.Hull.{hull_of, meet_of, Meet}
use Rattle.rb_num.proofs.Ends.{EndsAre, Made, made, both}
use Rattle.rb_num.proofs.Order.{times_pos}
use Rattle.rb_num.proofs.Quotients.{cancel_pos}
use Rattle.rb_frac.specs.Frac.{Frac}
use Rattle.rb_num.specs.Fraction.{LiesIn, EnclosesHull, EnclosesMeet, IsWithinBoth}

pub hull_made : {a1 a2 b1 b2 r q : ℤ} {a b : Interval} → EndsAre a1 a2 a → EndsAre b1 b2 b
    → r ≡ int_min (to_z w128 (of_z w128 a1)) (to_z w128 (of_z w128 b1)) → q ≡ int_max (to_z w128 (of_z w128 a2)) (to_z w128 (of_z w128 b2))
    → Made (hull_of a b) (to_z w128 (of_z w128 r)) (to_z w128 (of_z w128 q))
unfolding hull_of
hull_made {a1} {a2} {b1} {b2} {r} {q} {a} {b} h k e f =
    made (hull_of a b) r q (record {
      ordered = omega (arith, ints, clamps, h.whole, k.whole);
      low = omega (arith, ints, clamps, h.whole, k.whole);
      high = omega (arith, ints, clamps, h.whole, k.whole);
    }) (e ∙ both int_min h.lo k.lo) (f ∙ both int_max h.hi k.hi)

-- wider ends enclose more
pub wider : (f : Frac) (v w : Interval) → w.lo ≤ℤ v.lo → v.hi ≤ℤ w.hi → LiesIn f v → LiesIn f w
wider f v w l r h =
    let a = times_pos w.lo v.lo f.den l in
    let b = times_pos v.hi w.hi f.den r in
    record { above = omega (arith, ints, a, h.above); below = omega (arith, ints, b, h.below) }

pub hull_encloses : (a b v : Interval) → v ≡ hull_of a b → EnclosesHull a b v
unfolding hull_of
hull_encloses a b v e = subst (λ (x : Interval). EnclosesHull a b x) (sym e) (record {
  left = λ f. wider f a (hull_of a b) (omega (arith, ints, clamps)) (omega (arith, ints, clamps));
  right = λ f. wider f b (hull_of a b) (omega (arith, ints, clamps)) (omega (arith, ints, clamps));
})

pub meet_made : {a1 a2 b1 b2 r q : ℤ} {a b : Interval} → EndsAre a1 a2 a → EndsAre b1 b2 b → Meet a b
    → r ≡ int_max (to_z w128 (of_z w128 a1)) (to_z w128 (of_z w128 b1)) → q ≡ int_min (to_z w128 (of_z w128 a2)) (to_z w128 (of_z w128 b2))
    → Made (meet_of a b) (to_z w128 (of_z w128 r)) (to_z w128 (of_z w128 q))
unfolding meet_of
meet_made {a1} {a2} {b1} {b2} {r} {q} {a} {b} h k m e f =
    made (meet_of a b) r q (record {
      ordered = omega (arith, ints, clamps, h.whole, k.whole, m);
      low = omega (arith, ints, clamps, h.whole, k.whole);
      high = omega (arith, ints, clamps, h.whole, k.whole);
    }) (e ∙ both int_max h.lo k.lo) (f ∙ both int_min h.hi k.hi)

pub meets : (f : Frac) (a b : Interval) → LiesIn f a → LiesIn f b → Meet a b
meets f a b h k = record {
  left = cancel_pos a.lo b.hi f.den f.some (omega (arith, ints, h.above, k.below));
  right = cancel_pos b.lo a.hi f.den f.some (omega (arith, ints, k.above, h.below));
}

int_max_cases : (x y : ℤ) (P : ℤ → Type 0) → P x → P y → P (int_max x y)
int_max_cases x y P p q = grind (arith, ints, clamps)

int_min_cases : (x y : ℤ) (P : ℤ → Type 0) → P x → P y → P (int_min x y)
int_min_cases x y P p q = grind (arith, ints, clamps)

lies_meet : (f : Frac) (a b : Interval) → LiesIn f a → LiesIn f b → LiesIn f (meet_of a b)
unfolding meet_of
lies_meet f a b h k = record {
  above = int_max_cases a.lo b.lo (λ t. (t *ℤ pos f.den) ≤ℤ (f.num *ℤ pos grid)) h.above k.above;
  below = int_min_cases a.hi b.hi (λ t. (f.num *ℤ pos grid) ≤ℤ (t *ℤ pos f.den)) h.below k.below;
}

pub meet_encloses : (a b v : Interval) → v ≡ meet_of a b → EnclosesMeet a b (Some v)
meet_encloses a b v e = record { at = λ f h k. subst (λ (x : Interval). IsSomeAnd (Some x) (LiesIn f)) (sym e) (lies_meet f a b h k) }

pub meet_none : (a b : Interval) → (Meet a b → ⊥) → EnclosesMeet a b None
meet_none a b n = record { at = λ f h k. absurd (n (meets f a b h k)) }

pub within_both : (a b v : Interval) → v ≡ meet_of a b → IsWithinBoth a b v
unfolding meet_of
within_both a b v e = subst (λ (x : Interval). IsWithinBoth a b x) (sym e) (record {
  left = λ f. wider f (meet_of a b) a (omega (arith, ints, clamps)) (omega (arith, ints, clamps));
  right = λ f. wider f (meet_of a b) b (omega (arith, ints, clamps)) (omega (arith, ints, clamps));
})
