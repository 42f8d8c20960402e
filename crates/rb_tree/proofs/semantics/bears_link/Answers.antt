use Rattle.std.proofs.Common.{◌∙◌, ap}
use Rattle.rb_tags.specs.Names.{number_of_name}
use Rattle.rb_tree.proofs.ChildNames.{numbered}
use Rattle.rb_tree.proofs.semantics.bears_link.Goals as goal

pub returns : goal.returns
returns c =
    numbered c.args.names.now c.args.virtual_joint.now.child c.number_of.result c.is_some.result
    (c.number_of.ensures.number ∙ ap (number_of_name c.args.names.now) c.as_str.ensures.same) c.is_some.ensures
