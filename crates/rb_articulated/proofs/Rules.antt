-- The rules of the algorithm keep each relation that the operations keep, and what they mean at fractions.
use Rattle.std.proofs.Common.{◌≡◌, [], ◌∷◌, refl, sym, ◌∙◌, ap}
use Rattle.rb_frac.specs.Ops.{V3, vadd, vscale}
use Rattle.rb_frac.specs.Pairs.{dot}
use Rattle.rb_frac.specs.Frac.{Frac, Same, fracs, mul, neg, quot}
use Rattle.rb_frac.specs.Tables.{Vectors}
use Rattle.rb_frac.specs.Spatial.{Spatial, Motion, Force, Spatials}
use Rattle.rb_frac.specs.Mechanics.{plus, scaled}
use Rattle.rb_frac.proofs.Ring.{expr, var}
use Rattle.rb_frac.proofs.Rational.{ℚ, ◌+ℚ◌, ◌*ℚ◌, neg_ℚ, 1ℚ, inv, cls, exact, cls-one, cls_of_quot, mul_comm_ℚ, mul_one}
use Rattle.rb_frac.proofs.Hom.{cls_of_add, cls_of_mul, cls_of_neg}
use Rattle.rb_frac.proofs.Variables.{spatial, of_spatial, identity}
use Rattle.rb_num.specs.Arith.{Arith, Field, fractions, fraction_field}
use Rattle.rb_num.proofs.Relates.{Relates, RelatesField, Met, dot_met, sub_met, then_met, div_met}
use Rattle.rb_num.proofs.Bridges.{expressions}
use Rattle.rb_spatial.specs.Motions.{power as rule_power}
use Rattle.rb_spatial.proofs.Keep.{three_met, two_met, power_met}
use Rattle.rb_flat.proofs.Powers.{power}
use Rattle.rb_composite.proofs.Forms.{power-by_rule}
use Rattle.rb_articulated.specs.Rules.{vector_and, and_multiple, less_power, vector_over, over}

-- ---- relations
module _ {R Q : Arith} (K : Relates R Q) where
  vector_and_met : {a b : V3 R.N} {k : R.N} {a' b' : V3 Q.N} {k' : Q.N} → Vectors K.rel a a' → K.rel k k' → Vectors K.rel b b' → Met K (Vectors K.rel) (vector_and R a k b) (vector_and Q a' k' b')
  unfolding vector_and
  vector_and_met ha hk hb = search (three_met, dot_met K, K.one) depth 9

  pub and_multiple_met : {a b : Spatial R.N} {k : R.N} {a' b' : Spatial Q.N} {k' : Q.N} → Spatials K.rel a a' → K.rel k k' → Spatials K.rel b b'
      → Met K (Spatials K.rel) (and_multiple R a k b) (and_multiple Q a' k' b')
  unfolding and_multiple
  and_multiple_met ha hk hb = two_met K (vector_and_met ha.lin hk hb.lin) (vector_and_met ha.ang hk hb.ang)

  pub less_power_met : {x : R.N} {m f : Spatial R.N} {x' : Q.N} {m' f' : Spatial Q.N} → K.rel x x' → Spatials K.rel m m' → Spatials K.rel f f'
      → Met K K.rel (less_power R x m f) (less_power Q x' m' f')
  unfolding less_power
  less_power_met hx hm hf = then_met K (power_met K hm hf) (λ _ _ hy. sub_met K hx hy)

module _ {R Q : Field} (K : RelatesField R Q) where
  vector_over_met : {a : V3 R.arith.N} {d : R.arith.N} {a' : V3 Q.arith.N} {d' : Q.arith.N} → Vectors K.base.rel a a' → K.base.rel d d'
      → Met K.base (Vectors K.base.rel) (vector_over R a d) (vector_over Q a' d')
  unfolding vector_over
  vector_over_met ha hd = three_met K.base (div_met K ha.x hd) (div_met K ha.y hd) (div_met K ha.z hd)

  pub over_met : {f : Spatial R.arith.N} {d : R.arith.N} {f' : Spatial Q.arith.N} {d' : Q.arith.N} → Spatials K.base.rel f f' → K.base.rel d d'
      → Met K.base (Spatials K.base.rel) (over R f d) (over Q f' d')
  unfolding over
  over_met hf hd = two_met K.base (vector_over_met hf.lin hd) (vector_over_met hf.ang hd)

-- ---- at fractions
pub and_multiple-plus : (a b : Spatial Frac) (k : Frac) → Spatials Same (and_multiple fractions a k b) (plus fracs a (scaled fracs k b))
unfolding and_multiple vector_and dot plus scaled vadd vscale
and_multiple-plus a b k =
    identity (k ∷ of_spatial a (of_spatial b []))
    (and_multiple expressions (spatial 1) (var 0) (spatial 7))
    (plus expr (spatial 1) (scaled expr (var 0) (spatial 7)))
    (refl, refl, refl) (refl, refl, refl)

-- a quotient is a multiple
by_inverse : (x d : Frac) → Same (quot x d) (mul (quot fracs.one d) x)
by_inverse x d =
    exact (quot x d) (mul (quot fracs.one d) x)
    (cls_of_quot x d
    ∙ mul_comm_ℚ (cls x) (inv (cls d))
    ∙ ap (λ (t : ℚ). t *ℚ cls x) (sym (cls_of_quot fracs.one d ∙ ap (λ (t : ℚ). t *ℚ inv (cls d)) cls-one ∙ mul_comm_ℚ 1ℚ (inv (cls d)) ∙ mul_one (inv (cls d))))
    ∙ sym (cls_of_mul (quot fracs.one d) x))

pub over-scaled : (f : Force Frac) (d : Frac) → Spatials Same (over fraction_field f d) (scaled fracs (quot fracs.one d) f)
unfolding over vector_over scaled vscale
over-scaled f d = record {
  lin = record { x = by_inverse f.lin.x d; y = by_inverse f.lin.y d; z = by_inverse f.lin.z d };
  ang = record { x = by_inverse f.ang.x d; y = by_inverse f.ang.y d; z = by_inverse f.ang.z d };
}

pub cls-less_power : (x : Frac) (m : Motion Frac) (f : Force Frac) → cls (less_power fractions x m f) ≡ cls x +ℚ neg_ℚ (power m f)
unfolding less_power
cls-less_power x m f =
    let y = rule_power fractions m f in
    cls_of_add x (neg y) ∙ ap (λ (t : ℚ). cls x +ℚ t) (cls_of_neg y ∙ ap neg_ℚ (power-by_rule m f))
