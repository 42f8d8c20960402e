-- How a row accelerates between its two bodies lies in its value of the work.
use Rattle.std.proofs.Common.{ℕ, Bool, true, false, if◌then◌else◌, List, ◌++◌, sym}
use Rattle.rb_result.proofs.Results.{told-ok}
use Rattle.rb_frac.specs.Ops.{V3}
use Rattle.rb_frac.specs.Frac.{Frac, fracs}
use Rattle.rb_frac.specs.Tables.{Table, Vectors, row as row_in}
use Rattle.rb_frac.specs.Spatial.{Motion, Force, Spatials}
use Rattle.rb_num.specs.Interval.{Interval}
use Rattle.rb_num.specs.Fraction.{LiesIn}
use Rattle.rb_num.specs.Arith.{intervals, fractions}
use Rattle.rb_num.proofs.Relates.{Met, dot_met, sub_met}
use Rattle.rb_num.proofs.Bridges.{to_intervals, ok_met}
use Rattle.rb_spatial.specs.Motions.{plus_cross, cross3, power, pairs, six_pairs}
use Rattle.rb_spatial.proofs.Keep.{cross3_met, plus_cross_met, power_met}
use Rattle.rb_flat.specs.Dynamics.{Unknowns}
use Rattle.rb_flat.specs.Contact.{Constraints, HasRow, RowsFit, row_acceleration}
use Rattle.rb_composite.proofs.Adding.{then_lies, met_same}
use Rattle.rb_composite.proofs.Summands.{numbers}
use Rattle.rb_jacobian.specs.Rules.{row_vector, point_turning, row_value}
use Rattle.rb_jacobian.specs.Jacobian.{row_accelerations}
use Rattle.rb_jacobian.proofs.Rules.{value_is_acceleration}
use Rattle.rb_work.specs.View.{View}
use Rattle.rb_tree.specs.Robot.{Tree}
use Rattle.rb_tree.specs.Shape.{shape_of}
use Rattle.rb_constraint.specs.Constraints.{IsConstraintChoice}
use Rattle.rb_constraint.specs.Bias.{along, bias_by, difference_by, g_rule, AreBias}
use Rattle.rb_constraint.specs.Rows.{first_force, second_force}
use Rattle.rb_constraint.specs.Encloses.{TurnsLie, VectorsLie, MotionsLie, EnclosesBias}
use Rattle.rb_constraint.proofs.RowsLie.{row_lies, listed}

module _ {d q : V3 Frac} {v a : Motion Frac} {d' q' : V3 Interval} {v' a' : Motion Interval} {f' : Force Interval}
    (hd : Vectors LiesIn d d') (hq : Vectors LiesIn q q') (hv : Spatials LiesIn v v') (ha : Spatials LiesIn a a') where
  -- the rule at fractions
  along_met : Spatials LiesIn (row_vector fractions false d q) f' → Met to_intervals LiesIn (row_value fractions false q (row_vector fractions false d q) v a) (along d' f' q' v' a')
  unfolding row_value row_vector point_turning along
  along_met hf =
      then_lies (plus_cross_met to_intervals hv.lin hv.ang hq) (λ t ht.
      then_lies (cross3_met to_intervals hv.ang ht) (λ y hy.
      dot_met to_intervals (terms (cross3 fractions v.ang (plus_cross fractions v.lin v.ang q))) (six_pairs f'.lin a'.lin f'.ang a'.ang ++ pairs d' y)
      (hf.lin.x, ha.lin.x, (hf.lin.y, ha.lin.y, (hf.lin.z, ha.lin.z, (hf.ang.x, ha.ang.x, (hf.ang.y, ha.ang.y, (hf.ang.z, ha.ang.z, (hd.x, hy.x, (hd.y, hy.y, (hd.z, hy.z, tt)))))))))))
    where
      terms : V3 Frac → List (Frac × Frac)
      terms y = let f = row_vector fractions false d q in six_pairs f.lin a.lin f.ang a.ang ++ pairs d y

  about_met : Spatials LiesIn (row_vector fractions true d q) f' → Met to_intervals LiesIn (row_value fractions true q (row_vector fractions true d q) v a) (power intervals a' f')
  unfolding row_value
  about_met hf = power_met to_intervals ha hf

  pub value_lies : (turns : Bool) → Spatials LiesIn (row_vector fractions turns d q) f'
      → Met to_intervals LiesIn (row_acceleration fracs turns d q v a) (if turns then power intervals a' f' else along d' f' q' v' a')
  value_lies true hf =
      met_same numbers (row_value fractions true q (row_vector fractions true d q) v a) (row_acceleration fracs true d q v a) (power intervals a' f')
      (value_is_acceleration true d q v a) (about_met hf)
  value_lies false hf =
      met_same numbers (row_value fractions false q (row_vector fractions false d q) v a) (row_acceleration fracs false d q v a) (along d' f' q' v' a')
      (value_is_acceleration false d q v a) (along_met hf)

module _ (tree : Tree) (list : Constraints Interval) (k : Constraints Frac) (turn : ℕ → Table Frac) (s : Unknowns Frac) (w : View) (fit : RowsFit (shape_of tree) list)
    (chosen : IsConstraintChoice list k) (turns : TurnsLie tree turn w) (vectors : VectorsLie k turn w) (motions : MotionsLie tree s w) where
  difference_lies : (r : ℕ) → HasRow k r → Met to_intervals LiesIn (row_accelerations k turn s r) (difference_by list r w)
  unfolding difference_by bias_by
  difference_lies r has =
      let there : HasRow list r = listed list k chosen r has in
      let e = chosen.row r there in
      let numbers = chosen.numbers r there in
      let first = (fit r there).first in
      let second = (fit r there).second in
      let axis = (list.row r).axis in
      let on_first : Spatials LiesIn (row_vector fractions (list.row r).turns (row_in (turn (list.row r).first) axis) (k.numbers r).first_point) (first_force w r) =
      rw (sym e) (vectors.first r has) in
      let on_second : Spatials LiesIn (row_vector fractions (list.row r).turns (row_in (turn (list.row r).second) axis) (k.numbers r).second_point) (second_force w r) =
      rw (sym e) (vectors.second r has) in
      rw e (
      then_lies (value_lies (row_lies axis (turns (list.row r).first first)) numbers.first_point (motions.speed (list.row r).first first) (motions.acceleration (list.row r).first first) (list.row r).turns on_first) (λ x hx.
      then_lies (value_lies (row_lies axis (turns (list.row r).second second)) numbers.second_point (motions.speed (list.row r).second second) (motions.acceleration (list.row r).second second) (list.row r).turns on_second) (λ y hy.
      sub_met to_intervals hx hy)))

pub bias_encloses : (tree : Tree) (list : Constraints Interval) (w : View) → RowsFit (shape_of tree) list → AreBias list w → EnclosesBias tree list w
unfolding g_rule
bias_encloses tree list w fit are = record {
  at = λ k turn s chosen turns vectors motions r has.
      ok_met (told-ok _ _ _ (are.each_g r (listed list k chosen r has))) (difference_lies tree list k turn s w fit chosen turns vectors motions r has);
}
