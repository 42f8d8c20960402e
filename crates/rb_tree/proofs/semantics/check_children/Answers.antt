use Rattle.std.proofs.Common.{ap}
use Rattle.rb_tree.specs.Build.{BearsLink}
use Rattle.rb_tree.proofs.Answered.{fails}
use Rattle.rb_tree.proofs.ChildNames.{bears_none}
use Rattle.rb_tree.proofs.semantics.check_children.Goals as goal

pub returns-then-not-bears_link-clause-err : goal.returns-then-not-bears_link-clause-err
returns-then-not-bears_link-clause-err c =
    let virtual = c.virtual_joint-item.result in (
      ap (λ f. f.file) c.new.ensures,
      ap (λ f. f.kind) c.new.ensures,
      bears_none c.args.names.now c.args.virtuals.now c.loop-virtual_joint.virtual_joint-index virtual c.new.result.at c.loop-virtual_joint-test.true c.virtual_joint-item.is
          (ap (λ f. f.at) c.new.ensures) c.loop-virtual_joint.invariant
          (fails c.bears_link.result (BearsLink c.args.names.now virtual) c.bears_link.ensures c.if-not-bears_link.true),
    )
