use Rattle.std.proofs.Common.{◌≡◌, ◌-◌, ap, ◌∙◌, arith}
use Rattle.rb_flat.specs.Joint.{entry_count}
use Rattle.rb_joint.specs.Any.{kind_of}
use Rattle.rb_tree.specs.Columns.{first_entry, leader_at}
use Rattle.rb_tree.specs.Numbers.{joint_at}
use Rattle.rb_tree.specs.State.{at_place}
use Rattle.rb_tree.proofs.ColumnLaws.{entry_small}
use Rattle.rb_tree.proofs.Entries.{padded_set, entries_own}
use Rattle.rb_tree.proofs.places.own_entries.Goals as goal

pub overflow_add-first : goal.overflow_add-first
overflow_add-first c =
    let bodies = c.args.robot.now.bodies in
    omega (arith, entry_small bodies (leader_at bodies c.args.i - 1), c.bodies-tree.ensures.kept.leads_to c.args.i c.requires.there.to)

pub q-requires : goal.q-requires
q-requires c =
    let bodies = c.args.robot.now.bodies in
    let own = entries_own bodies c.args.i c.requires.leads in
    let count : c.nq-count.result ≡ entry_count (kind_of (joint_at bodies c.args.i)) = c.nq-count.ensures.count ∙ ap (λ j. entry_count (kind_of j)) c.joint.ensures.at in
    omega (arith, own, count)

pub loop-k-preserved : goal.loop-k-preserved
loop-k-preserved c =
    padded_set (at_place c.args.state.now.q) (first_entry c.args.robot.now.bodies c.args.i) c.first_q-first.result c.loop-k.k 7 c.loop-k.entries c.q.result (omega arith)
    c.first_q-first.ensures.exact c.loop-k.invariant c.q.ensures.exact
