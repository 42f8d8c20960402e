-- The rules of rows of constraints, over any numbers. Featherstone, Rigid Body Dynamics Algorithms, chapter 8.
use Rattle.std.specs.Prelude.{Bool, if◌then◌else◌, [], ◌∷◌}
use Rattle.rb_frac.specs.Ops.{V3}
use Rattle.rb_frac.specs.Tables.{nothing}
use Rattle.rb_frac.specs.Spatial.{Motion, Force}
use Rattle.rb_num.specs.Arith.{Arith, signs_of}
use Rattle.rb_spatial.specs.Motions.{cross3, plus_cross, power}

module _ (R : Arith) where
  -- the vector of a row at one of its bodies: the force d at the point q, or the moment d
  unfoldable pub row_vector : Bool → V3 R.N → V3 R.N → R.M (Force R.N)
  row_vector turns d q =
      if turns
      then R.ret (record { lin = nothing (signs_of R); ang = d })
      else R.bind (cross3 R q d) (λ n. R.ret (record { lin = d; ang = n }))

  -- w x (u + w x q), for the speed (u, w)
  unfoldable pub point_turning : V3 R.N → Motion R.N → R.M (V3 R.N)
  point_turning q v = R.bind (plus_cross R v.lin v.ang q) (λ t. cross3 R v.ang t)

  -- along the vector f of a row, how its body accelerates at the point q, whose speed is v and whose spatial acceleration is a
  unfoldable pub row_value : Bool → V3 R.N → Force R.N → Motion R.N → Motion R.N → R.M R.N
  row_value turns q f v a =
      if turns
      then power R a f
      else R.bind (point_turning q v) (λ y.
      R.dot
      ((f.lin.x, a.lin.x) ∷ (f.lin.y, a.lin.y) ∷ (f.lin.z, a.lin.z) ∷ (f.ang.x, a.ang.x) ∷ (f.ang.y, a.ang.y) ∷ (f.ang.z, a.ang.z) ∷
      (f.lin.x, y.x) ∷ (f.lin.y, y.y) ∷ (f.lin.z, y.z) ∷ []))
