use Rattle.rb_srdf.specs.declared.srdf.Group.{Group}
use Rattle.rb_tree.proofs.GroupNames.{names_more_of, names_all}
use Rattle.rb_tree.proofs.groups.names_of_groups.Goals as goal

pub loop-group-preserved : goal.loop-group-preserved
loop-group-preserved c =
    names_more_of (λ (x : Group). x.name) c.args.groups.now c.loop-group.group-index c.group-item.result c.loop-group.names c.add.new.self c.as_str.result.now c.in_ok-add.field-0 c.requires
    c.loop-group.invariant c.loop-group-test.true c.group-item.is c.as_str.ensures.same c.in_ok-add.ensures.added c.in_ok-add.ensures.names

pub returns : goal.returns
returns c = names_all (λ (x : Group). x.name) c.args.groups.now c.loop-group.group-index c.loop-group.names c.loop-group.invariant c.loop-group-test.false
