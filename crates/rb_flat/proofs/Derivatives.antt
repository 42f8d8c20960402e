-- The acceleration of a body is the rate of its speed.
use Rattle.std.proofs.Common.{ℕ, ◌+◌, [], refl}
use Rattle.rb_frac.specs.Ops.{V3, signs, vadd, vscale, vdot, vcross}
use Rattle.rb_frac.specs.Frac.{Frac, Same, fracs}
use Rattle.rb_frac.specs.Tables.{Table, cross_table, nothing, table_times, table_product, table_scaled}
use Rattle.rb_frac.specs.Spatial.{Spatial, Motion, Place, Spatials}
use Rattle.rb_frac.specs.Mechanics.{plus, in_body, motion_product}
use Rattle.rb_frac.proofs.Ring.{Expr, expr, var}
use Rattle.rb_frac.proofs.Variables.{vector, rows, spatial, place, of_vector, of_rows, of_spatial, of_place, identity}
use Rattle.rb_flat.specs.Rates.{Moving, moving, vector_now, vector_rate, table_now, table_rate, place_now, spatial_now, spatial_rate, PlaceMoves, AccelerationsAreRates}
use Rattle.rb_flat.proofs.Equality.{same_fractions, vectors_refl, spatials_refl, spatials_trans, plus_same, table_same}

-- variables whose values begin at i and whose rates begin at j
abbrev pub moving_vector : ℕ → ℕ → V3 (Moving Expr)
moving_vector i j = record {
  x = record { value = var i; rate = var j };
  y = record { value = var (i + 1); rate = var (j + 1) };
  z = record { value = var (i + 2); rate = var (j + 2) };
}

abbrev moving_place : Place (Moving Expr)
moving_place = record {
  e = record { x = moving_vector 0 12; y = moving_vector 3 15; z = moving_vector 6 18 };
  r = moving_vector 9 21;
}

abbrev moving_spatial : ℕ → ℕ → Spatial (Moving Expr)
moving_spatial i j = record { lin = moving_vector i j; ang = moving_vector (i + 3) (j + 3) }

module _ (x : Place (Moving Frac)) (v j : Motion (Moving Frac)) where
  -- the parent's speed at the origin of the body, in the parent
  abbrev there : V3 Frac
  there = vadd fracs (vector_now v.lin) (vcross fracs (vector_now v.ang) (vector_now x.r))

  -- what the change of E, given as a table, and the change of r add
  abbrev by_turn : Table Frac → Spatial Frac
  by_turn e = record { lin = table_times fracs e there; ang = table_times fracs e (vector_now v.ang) }

  abbrev by_shift : V3 Frac → Spatial Frac
  by_shift u = record { lin = u; ang = nothing (signs fracs) }

  abbrev stays : Spatial Frac
  stays = plus fracs (in_body fracs (place_now x) (spatial_rate v)) (spatial_rate j)

  abbrev shifted : V3 Frac
  shifted = table_times fracs (table_now x.e) (vcross fracs (vector_now v.ang) (vector_rate x.r))

  -- the rule of products
  rate-parts : Spatials Same
      (spatial_rate (plus (moving fracs) (in_body (moving fracs) x v) j))
      (plus fracs (plus fracs (by_turn (table_rate x.e)) (by_shift shifted)) stays)
  unfolding plus in_body table_times vadd vdot vcross
  rate-parts =
      let y = vadd expr (vector 24) (vcross expr (vector 27) (vector 9)) in
      let turned : Spatial Expr = record { lin = table_times expr (rows 12) y; ang = table_times expr (rows 12) (vector 27) } in
      let moved : Spatial Expr = record { lin = table_times expr (rows 0) (vcross expr (vector 27) (vector 21)); ang = nothing (signs expr) } in
      identity
      (of_place (place_now x) (of_rows (table_rate x.e) (of_vector (vector_rate x.r) (of_spatial (spatial_now v) (of_spatial (spatial_rate v) (of_spatial (spatial_now j) (of_spatial (spatial_rate j) [])))))))
      (spatial_rate (plus (moving expr) (in_body (moving expr) moving_place (moving_spatial 24 30)) (moving_spatial 36 42)))
      (plus expr (plus expr turned moved) (plus expr (in_body expr (place 0) (spatial 30)) (spatial 42)))
      (refl, refl, refl) (refl, refl, refl)

  abbrev spun : Table Frac
  spun = table_scaled fracs (fracs.neg fracs.one) (table_product fracs (cross_table (signs fracs) (vector_now j.ang)) (table_now x.e))

  -- what the changes add is the product of the speed and the motion over the joint
  changes-product : Spatials Same
      (plus fracs (plus fracs (by_turn spun) (by_shift (vcross fracs (table_times fracs (table_now x.e) (vector_now v.ang)) (vector_now j.lin)))) stays)
      (plus fracs stays (motion_product fracs (spatial_now (plus (moving fracs) (in_body (moving fracs) x v) j)) (spatial_now j)))
  unfolding plus in_body motion_product table_times table_product table_scaled vadd vscale vdot vcross
  changes-product =
      let y = vadd expr (vector 12) (vcross expr (vector 15) (vector 9)) in
      let e = table_scaled expr (expr.neg expr.one) (table_product expr (cross_table (signs expr) (vector 27)) (rows 0)) in
      let turned : Spatial Expr = record { lin = table_times expr e y; ang = table_times expr e (vector 15) } in
      let moved : Spatial Expr = record { lin = vcross expr (table_times expr (rows 0) (vector 15)) (vector 24); ang = nothing (signs expr) } in
      let rest = plus expr (in_body expr (place 0) (spatial 18)) (spatial 30) in
      identity
      (of_place (place_now x) (of_spatial (spatial_now v) (of_spatial (spatial_rate v) (of_spatial (spatial_now j) (of_spatial (spatial_rate j) [])))))
      (plus expr (plus expr turned moved) rest)
      (plus expr rest (motion_product expr (plus expr (in_body expr (place 0) (spatial 12)) (spatial 24)) (spatial 24)))
      (refl, refl, refl) (refl, refl, refl)

  accelerations : PlaceMoves x (spatial_now j) → Spatials Same
      (spatial_rate (plus (moving fracs) (in_body (moving fracs) x v) j))
      (plus fracs stays (motion_product fracs (spatial_now (plus (moving fracs) (in_body (moving fracs) x v) j)) (spatial_now j)))
  accelerations h =
      spatials_trans same_fractions rate-parts
      (spatials_trans same_fractions
      (plus_same same_fractions
      (plus_same same_fractions
      (record { lin = table_same same_fractions there h.turn; ang = table_same same_fractions (vector_now v.ang) h.turn })
      (record { lin = h.shift (vector_now v.ang); ang = vectors_refl same_fractions (nothing (signs fracs)) }))
      (spatials_refl same_fractions stays))
      changes-product)

pub accelerations_are_rates : AccelerationsAreRates
accelerations_are_rates x v j h = accelerations x v j h
