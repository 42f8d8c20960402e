use Rattle.rb_tree.proofs.ChildNames.{one_link_more}
use Rattle.rb_tree.proofs.semantics.names_of.Goals as goal

pub loop-link-preserved : goal.loop-link-preserved
loop-link-preserved c =
    one_link_more c.args.links.now c.loop-link.link-index c.link-item.result c.as_str.result.now c.loop-link.names c.add.new.self c.in_ok-add.field-0 c.requires c.loop-link-test.true
    c.link-item.is c.as_str.ensures.same c.loop-link.invariant c.in_ok-add.ensures.added c.in_ok-add.ensures.names
