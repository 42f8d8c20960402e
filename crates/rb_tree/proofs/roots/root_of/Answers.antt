use Rattle.std.proofs.Common.{◌≡◌, ◌∙◌, sym, ap}
use Rattle.rb_tree.specs.declared.faults.TreeKind.TheVariants.{TwoRoots}
use Rattle.rb_tree.specs.declared.faults.WhichFile.TheVariants.{Urdf}
use Rattle.rb_tree.specs.declared.faults.TreeFault.{TreeFault}
use Rattle.rb_tree.proofs.Rooted.{no_root, one_root, two_roots}
use Rattle.rb_tree.proofs.roots.root_of.Goals as goal

pub returns-in_default-clause-err : goal.returns-in_default-clause-err
returns-in_default-clause-err c =
    no_root c.args.robot.now c.as_slice-links.result.now c.as_slice-joints.result.now (c.as_slice-links.ensures ∙ c.links.ensures) (c.as_slice-joints.ensures ∙ c.joints.ensures.same)
    c.fault.result c.place.result c.fault.ensures c.place.ensures c.in_default.ensures.none

pub returns-in-Some-next_root-clause-err : goal.returns-in-Some-next_root-clause-err
returns-in-Some-next_root-clause-err c =
    let link = c.index-links-second.result in
    let fault_is : c.fault-in-Some-next_root.result ≡ record { kind = TwoRoots; file = Urdf; at = link.place } =
    c.fault-in-Some-next_root.ensures ∙ ap (λ l. let f : TreeFault = record { kind = TwoRoots; file = Urdf; at = l.place } in f) (sym c.index-links-second.is) in
    two_roots c.args.robot.now c.as_slice-links.result.now c.as_slice-joints.result.now (c.as_slice-links.ensures ∙ c.links.ensures) (c.as_slice-joints.ensures ∙ c.joints.ensures.same)
    c.in-Some.root c.in-Some-next_root.second c.fault-in-Some-next_root.result link c.in-Some.ensures.none c.in-Some-next_root.ensures.none c.index-links-second.is fault_is

pub returns-in-None-clause-ok : goal.returns-in-None-clause-ok
returns-in-None-clause-ok c =
    one_root c.args.robot.now c.as_slice-links.result.now c.as_slice-joints.result.now (c.as_slice-links.ensures ∙ c.links.ensures) (c.as_slice-joints.ensures ∙ c.joints.ensures.same)
    c.in-Some.root c.in-Some.ensures.none c.in-None.ensures.none
