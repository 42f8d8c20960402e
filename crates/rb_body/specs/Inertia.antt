-- The inertia that a link gives its body, over any numbers and in intervals. Featherstone, Rigid Body Dynamics Algorithms, chapter 2; URDF
-- `inertial`.
use Rattle.std.specs.Prelude.{Result, [], ◌∷◌}
use Rattle.rb_frac.specs.Ops.{V3}
use Rattle.rb_frac.specs.Tables.{Table, Symmetric, full}
use Rattle.rb_frac.specs.Spatial.{BodyInertia, BodyInertias}
use Rattle.rb_num.specs.Interval.{Interval}
use Rattle.rb_num.specs.Fraction.{LiesIn}
use Rattle.rb_num.specs.Arith.{Arith, intervals}
use Rattle.rb_result.specs.Steps.{◌>>=◌, told_as}
use Rattle.rb_spatial.specs.Motions.{six, multiple}
use Rattle.rb_spatial.specs.Carrying.{product, upper_product}
use Rattle.rb_flat.specs.Body.{BodyChoice, chosen_inertia}
use Rattle.rb_flat.specs.Choice.{LinkBrackets, LinkChosen}
use Rattle.rb_joint.specs.Frames.{frame_by}
use Rattle.rb_body.specs.declared.faults.BodyFault.{BodyFault}
use Rattle.rb_body.specs.Faults.{of_frame, of_number}

module _ (R : Arith) where
  -- (r j) r^T, on and above the diagonal
  unfoldable pub turned : Table R.N → Symmetric R.N → R.M (Symmetric R.N)
  turned r j = R.bind (product R r (full j)) (λ t. upper_product R t r)

  -- j + (h.c 1 - h c^T), where h is the mass times c: from the centre c to the origin
  unfoldable pub moved : Symmetric R.N → V3 R.N → V3 R.N → R.M (Symmetric R.N)
  moved j h c =
      six R
      (R.dot ((j.xx, R.one) ∷ (h.y, c.y) ∷ (h.z, c.z) ∷ []))
      (R.dot ((j.xy, R.one) ∷ (R.neg h.x, c.y) ∷ []))
      (R.dot ((j.xz, R.one) ∷ (R.neg h.x, c.z) ∷ []))
      (R.dot ((j.yy, R.one) ∷ (h.x, c.x) ∷ (h.z, c.z) ∷ []))
      (R.dot ((j.yz, R.one) ∷ (R.neg h.y, c.z) ∷ []))
      (R.dot ((j.zz, R.one) ∷ (h.x, c.x) ∷ (h.y, c.y) ∷ []))

  -- the body of mass m and centre c, whose inertia about the centre is j along axes that stand by the rotation r
  unfoldable pub body : Table R.N → R.N → V3 R.N → Symmetric R.N → R.M (BodyInertia R.N)
  body r m c j =
      R.bind (turned r j) (λ t.
      R.bind (multiple R m c) (λ h.
      R.bind (moved t h c) (λ i. R.ret (record { mass = m; first = h; six = i }))))

-- the first refusal, or the inertia about the body's origin
unfoldable pub inertia_by : LinkBrackets → Result (BodyInertia Interval) BodyFault
inertia_by l = told_as of_frame (frame_by l.centre l.rpy) >>= λ f. told_as of_number (body intervals f.rot l.mass l.centre l.six)

-- for each choice of the link, the mass, the first moment and the inertia about the body's origin lie in i
pub record EnclosesInertia (b : LinkBrackets) (i : BodyInertia Interval) : Type 0 where
  pub at : (c : BodyChoice) → LinkChosen c b → BodyInertias LiesIn (chosen_inertia c) i
