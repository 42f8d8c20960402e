use Rattle.rb_srdf.specs.declared.srdf.Virtual.{Virtual}
use Rattle.rb_tree.proofs.GroupNames.{names_more_of, names_all}
use Rattle.rb_tree.proofs.bearers.names_of_virtuals.Goals as goal

pub loop-joint-preserved : goal.loop-joint-preserved
loop-joint-preserved c =
    names_more_of (λ (x : Virtual). x.name) c.args.virtuals.now c.loop-joint.joint-index c.joint-item.result c.loop-joint.names c.add.new.self c.as_str.result.now c.in_ok-add.field-0 c.requires
    c.loop-joint.invariant c.loop-joint-test.true c.joint-item.is c.as_str.ensures.same c.in_ok-add.ensures.added c.in_ok-add.ensures.names

pub returns : goal.returns
returns c = names_all (λ (x : Virtual). x.name) c.args.virtuals.now c.loop-joint.joint-index c.loop-joint.names c.loop-joint.invariant c.loop-joint-test.false
