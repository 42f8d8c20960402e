-- The rules of the articulated-body algorithm that are not among those of motions, forces and inertias, over any numbers. Featherstone, Rigid Body
-- Dynamics Algorithms, chapter 7.
use Rattle.std.specs.Prelude.{[], ◌∷◌}
use Rattle.rb_frac.specs.Ops.{V3}
use Rattle.rb_frac.specs.Spatial.{Spatial, Motion, Force}
use Rattle.rb_num.specs.Arith.{Arith, Field}
use Rattle.rb_spatial.specs.Motions.{three, two, power}

module _ (R : Arith) where
  unfoldable pub vector_and : V3 R.N → R.N → V3 R.N → R.M (V3 R.N)
  vector_and a k b =
      three R (R.dot ((a.x, R.one) ∷ (b.x, k) ∷ [])) (R.dot ((a.y, R.one) ∷ (b.y, k) ∷ [])) (R.dot ((a.z, R.one) ∷ (b.z, k) ∷ []))

  -- a + k b
  unfoldable pub and_multiple : Spatial R.N → R.N → Spatial R.N → R.M (Spatial R.N)
  and_multiple a k b = two R (vector_and a.lin k b.lin) (vector_and a.ang k b.ang)

  -- x - m . f
  unfoldable pub less_power : R.N → Motion R.N → Force R.N → R.M R.N
  less_power x m f = R.bind (power R m f) (λ y. R.sub x y)

module _ (F : Field) where
  unfoldable pub vector_over : V3 F.arith.N → F.arith.N → F.arith.M (V3 F.arith.N)
  vector_over a d = three F.arith (F.div a.x d) (F.div a.y d) (F.div a.z d)

  -- f / d, part by part
  unfoldable pub over : Force F.arith.N → F.arith.N → F.arith.M (Force F.arith.N)
  over f d = two F.arith (vector_over f.lin d) (vector_over f.ang d)
