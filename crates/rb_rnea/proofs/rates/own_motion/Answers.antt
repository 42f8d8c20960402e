use Rattle.std.proofs.Common.{◌≡◌, ◌+◌, ◌-◌, ap, ◌∙◌, arith}
use Rattle.rb_flat.specs.Joint.{column_count}
use Rattle.rb_joint.specs.Any.{kind_of}
use Rattle.rb_joint.specs.Columns.{joint_motion}
use Rattle.std.specs.List.{slice_range}
use Rattle.rb_tree.specs.Columns.{leader_at}
use Rattle.rb_tree.proofs.Entries.{columns_own, column_from}
use Rattle.rb_rnea.specs.Rates.{joint_columns}
use Rattle.rb_rnea.proofs.OwnRates.{own_motion_is}
use Rattle.rb_rnea.proofs.rates.own_motion.Goals as goal

pub overflow_sub-first : goal.overflow_sub-first
overflow_sub-first c = let bodies = c.args.robot.now.bodies in omega (arith, column_from bodies (leader_at bodies c.args.i - 1))

pub slice_bounds-motion-end : goal.slice_bounds-motion-end
slice_bounds-motion-end c =
    let bodies = c.args.robot.now.bodies in
    let own = columns_own bodies c.args.i c.requires.leads in
    let count : c.nv.result ≡ joint_columns bodies c.args.i = c.nv.ensures.count ∙ ap (λ j. column_count (kind_of j)) c.joint-joint.ensures.at in
    omega (arith, own, count, column_from bodies (leader_at bodies c.args.i - 1))

pub returns-clause-exact : goal.returns-clause-exact
returns-clause-exact c =
    let bodies = c.args.robot.now.bodies in
    let own = columns_own bodies c.args.i c.requires.leads in
    let count : c.nv.result ≡ joint_columns bodies c.args.i = c.nv.ensures.count ∙ ap (λ j. column_count (kind_of j)) c.joint-joint.ensures.at in
    c.motion.ensures.exact
    ∙ ap (λ j. joint_motion j (slice_range c.args.numbers.now (c.first_column.result - 1) (c.first_column.result - 1 + c.nv.result))) c.joint-joint.ensures.at
    ∙ own_motion_is bodies c.args.numbers.now c.args.i (c.first_column.result - 1) c.nv.result c.requires.leads (ap (λ n. n - 1) c.first_column.ensures.exact) count c.nv.ensures.bound
    (omega (arith, own, count, column_from bodies (leader_at bodies c.args.i - 1)))
