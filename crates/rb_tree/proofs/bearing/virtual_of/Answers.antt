use Rattle.std.proofs.Common.{◌∙◌, ap, refl}
use Rattle.std.specs.Prelude.{bytes_eq, find}
use Rattle.rb_srdf.specs.declared.srdf.Virtual.{Virtual}
use Rattle.rb_tree.proofs.BearsRoot.{finds_root}
use Rattle.rb_tree.proofs.bearing.virtual_of.Goals as goal

pub returns : goal.returns
returns c =
    c.bearing_link.ensures ∙ (ap (λ name. find (λ (virtual : Virtual). bytes_eq virtual.child name) c.args.virtuals.now) c.as_str.ensures.same
    ∙ finds_root c.args.urdf.now c.args.order.now c.as_slice.result.now c.index-as_slice-order.result _ c.args.virtuals.now c.requires.kept c.requires.ordered
    (c.as_slice.ensures ∙ c.links.ensures) refl c.index-as_slice-order.is)
