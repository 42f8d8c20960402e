use Rattle.std.proofs.Common.{◌≡◌, ◌-◌, ap, ◌∙◌, arith}
use Rattle.rb_flat.specs.Joint.{column_count}
use Rattle.rb_joint.specs.Any.{kind_of}
use Rattle.rb_tree.specs.Columns.{first_column, leader_at}
use Rattle.rb_tree.specs.State.{at_place}
use Rattle.rb_tree.proofs.Entries.{padded_set, columns_own, column_from}
use Rattle.rb_rnea.specs.Rates.{joint_columns}
use Rattle.rb_rnea.proofs.rates.own_rates.Goals as goal

pub overflow_sub-first : goal.overflow_sub-first
overflow_sub-first c = let bodies = c.args.robot.now.bodies in omega (arith, column_from bodies (leader_at bodies c.args.i - 1))

pub number_at-requires : goal.number_at-requires
number_at-requires c =
    let bodies = c.args.robot.now.bodies in
    let own = columns_own bodies c.args.i c.requires.leads in
    let count : c.nv-count.result ≡ joint_columns bodies c.args.i = c.nv-count.ensures.count ∙ ap (λ j. column_count (kind_of j)) c.joint.ensures.at in
    omega (arith, own, count, column_from bodies (leader_at bodies c.args.i - 1))

pub loop-k-preserved : goal.loop-k-preserved
loop-k-preserved c =
    let first : c.first_column.result ≡ first_column c.args.robot.now.bodies c.args.i = c.first_column.ensures.exact in
    padded_set (at_place c.args.numbers.now) (first_column c.args.robot.now.bodies c.args.i - 1) (c.first_column.result - 1) c.loop-k.k 6 c.loop-k.rates c.number_at.result (omega arith)
    (ap (λ n. n - 1) first) c.loop-k.invariant c.number_at.ensures
