use Rattle.std.proofs.Common.{◌≡◌, ◌∙◌, List, None, ap, sym, subst, inr}
use Rattle.std.specs.Prelude.{option_copied}
use Rattle.std.specs.List.{AllZip}
use Rattle.std.proofs.lemmas.Result.{err_from_is_err_and}
use Rattle.rb_urdf.specs.declared.robot.UrdfJoint.{UrdfJoint}
use Rattle.rb_urdf.specs.Robot.{IsRobot}
use Rattle.rb_srdf.specs.declared.srdf.Virtual.{Virtual}
use Rattle.rb_tree.specs.declared.order.Stem.{Stem}
use Rattle.rb_tree.specs.declared.robot.Body.{Body}
use Rattle.rb_tree.specs.Order.{IsOrder, IsAccepted}
use Rattle.rb_tree.specs.Robot.{AreBodies}
use Rattle.rb_tree.specs.Parts.{root_of}
use Rattle.rb_tree.specs.States.{states_made}
use Rattle.rb_tree.specs.Build.{Source, states_in, virtuals_in, root_joint_of, IsBodyOf}
use Rattle.rb_tree.proofs.MakingLaws.{are_bodies, are_built}
use Rattle.rb_tree.proofs.Building.{by_semantics, by_order, by_names, by_constants, by_groups, by_states, accepted_by, constants_by, bodies_by, names_by, groups_by, group_fault_by, or_else}
use Rattle.rb_tree.proofs.robot.Robot.build.Goals as goal

-- the joint of the root is that of the source
the_root : (source : Source) (joint : UrdfJoint) (virtuals : List Virtual) → joint ≡ root_of source.urdf virtuals source.root → virtuals ≡ virtuals_in source.srdf →
    joint ≡ root_joint_of source
the_root source joint virtuals e v = e ∙ ap (λ vs. root_of source.urdf vs source.root) v

pub returns-in_err-check_semantics-clause-err : goal.returns-in_err-check_semantics-clause-err
returns-in_err-check_semantics-clause-err c =
    let source : Source = record { urdf = c.args.urdf.now; srdf = option_copied c.args.srdf; root = c.args.root } in
    let p = err_from_is_err_and c.from_residual.result c.from_residual.ensures.1 in
    let fault = c.in_err-check_semantics.field-0.0 in
    rw (p.1, p.2) (or_else c.in_err-check_semantics.ensures.err (by_semantics source fault))

pub returns-in_err-order-clause-err : goal.returns-in_err-order-clause-err
returns-in_err-order-clause-err c =
    let source : Source = record { urdf = c.args.urdf.now; srdf = option_copied c.args.srdf; root = c.args.root } in
    let p = err_from_is_err_and c.from_residual-in_err-order.result c.from_residual-in_err-order.ensures.1 in
    let fault = c.in_err-order.field-0.0 in
    rw (p.1, p.2) (or_else c.in_err-order.ensures.err (by_order source fault c.in_ok-check_semantics.ensures.robot c.in_ok-check_semantics.ensures.virtuals))

pub returns-in_err-check_order-clause-err : goal.returns-in_err-check_order-clause-err
returns-in_err-check_order-clause-err c =
    let source : Source = record { urdf = c.args.urdf.now; srdf = option_copied c.args.srdf; root = c.args.root } in
    let is = the_root source c.in_ok-root.root c.virtuals_of.result.now c.in_ok-root.ensures.joint c.virtuals_of.ensures in
    let p = err_from_is_err_and c.from_residual-in_err-check_order.result c.from_residual-in_err-check_order.ensures.1 in
    let fault = c.in_err-check_order.field-0.0 in
    rw (p.1, p.2) (inr (by_names source fault c.in_ok-check_semantics.ensures.robot c.in_ok-check_semantics.ensures.virtuals c.in_ok-order.ensures.kept c.in_ok-order.order.items
    c.in_ok-order.ensures.ok c.in_ok-order.ensures.few (names_by source c.in_ok-root.root is fault c.in_err-check_order.ensures.err)))

pub returns-in_err-bodies-clause-err : goal.returns-in_err-bodies-clause-err
returns-in_err-bodies-clause-err c =
    let source : Source = record { urdf = c.args.urdf.now; srdf = option_copied c.args.srdf; root = c.args.root } in
    let is = the_root source c.in_ok-root.root c.virtuals_of.result.now c.in_ok-root.ensures.joint c.virtuals_of.ensures in
    let p = err_from_is_err_and c.from_residual-in_err-bodies.result c.from_residual-in_err-bodies.ensures.1 in
    let fault = c.in_err-bodies.field-0.0 in
    let order = c.in_ok-order.order.items in
    let accepted = accepted_by source c.in_ok-root.root is order c.as_slice-2.result.now c.as_slice-2.ensures.value c.in_ok-check_order.ensures.accepted in
    rw (p.1, p.2) (or_else c.in_err-bodies.ensures.err (λ h. by_constants source fault c.in_ok-check_semantics.ensures.robot c.in_ok-check_semantics.ensures.virtuals
    c.in_ok-order.ensures.kept order c.in_ok-order.ensures.ok c.in_ok-order.ensures.few accepted (constants_by source c.in_ok-root.root is fault h)))

-- what the bodies of a robot keep
bodies_kept : (source : Source) (joint : UrdfJoint) (order seen : List Stem) (bodies : List Body) → joint ≡ root_joint_of source → joint.mimic ≡ None → seen ≡ order →
    IsRobot source.urdf.links source.urdf.joints → IsOrder source.urdf order → IsAccepted source.urdf (root_joint_of source) order → AllZip (IsBodyOf source.urdf joint seen) seen bodies → AreBodies bodies
bodies_kept source joint order seen bodies is leads same kept ordered accepted each =
    let L : UrdfJoint → Type 0 = λ j. j.mimic ≡ None in
    are_bodies source.urdf (root_joint_of source) order bodies ordered (bodies_by source joint is order seen bodies same each) kept (subst L is leads) accepted

pub new-requires-clause-bodies : goal.new-requires-clause-bodies
new-requires-clause-bodies c =
    let source : Source = record { urdf = c.args.urdf.now; srdf = option_copied c.args.srdf; root = c.args.root } in
    let is = the_root source c.in_ok-root.root c.virtuals_of.result.now c.in_ok-root.ensures.joint c.virtuals_of.ensures in
    let order = c.in_ok-order.order.items in
    let accepted = accepted_by source c.in_ok-root.root is order c.as_slice-2.result.now c.as_slice-2.ensures.value c.in_ok-check_order.ensures.accepted in
    bodies_kept source c.in_ok-root.root order c.as_slice-3.result.now c.in_ok-bodies.bodies.items is c.in_ok-root.ensures.leads c.as_slice-3.ensures.value c.in_ok-order.ensures.kept
    c.in_ok-order.ensures.ok accepted c.in_ok-bodies.ensures.ok

pub groups_for-requires : goal.groups_for-requires
groups_for-requires c =
    let source : Source = record { urdf = c.args.urdf.now; srdf = option_copied c.args.srdf; root = c.args.root } in
    let is = the_root source c.in_ok-root.root c.virtuals_of.result.now c.in_ok-root.ensures.joint c.virtuals_of.ensures in
    let order = c.in_ok-order.order.items in
    let accepted = accepted_by source c.in_ok-root.root is order c.as_slice-2.result.now c.as_slice-2.ensures.value c.in_ok-check_order.ensures.accepted in
    let kept = bodies_kept source c.in_ok-root.root order c.as_slice-3.result.now c.in_ok-bodies.bodies.items is c.in_ok-root.ensures.leads c.as_slice-3.ensures.value
    c.in_ok-order.ensures.kept c.in_ok-order.ensures.ok accepted c.in_ok-bodies.ensures.ok in
    subst AreBodies (sym c.as_slice-4.ensures.value) kept

pub states_for-requires : goal.states_for-requires
states_for-requires c =
    let source : Source = record { urdf = c.args.urdf.now; srdf = option_copied c.args.srdf; root = c.args.root } in
    let is = the_root source c.in_ok-root.root c.virtuals_of.result.now c.in_ok-root.ensures.joint c.virtuals_of.ensures in
    let order = c.in_ok-order.order.items in
    let accepted = accepted_by source c.in_ok-root.root is order c.as_slice-2.result.now c.as_slice-2.ensures.value c.in_ok-check_order.ensures.accepted in
    let kept = bodies_kept source c.in_ok-root.root order c.as_slice-3.result.now c.in_ok-bodies.bodies.items is c.in_ok-root.ensures.leads c.as_slice-3.ensures.value
    c.in_ok-order.ensures.kept c.in_ok-order.ensures.ok accepted c.in_ok-bodies.ensures.ok in
    subst AreBodies (sym c.as_slice-5.ensures.value) kept

pub returns-in_err-groups-clause-err : goal.returns-in_err-groups-clause-err
returns-in_err-groups-clause-err c =
    let source : Source = record { urdf = c.args.urdf.now; srdf = option_copied c.args.srdf; root = c.args.root } in
    let is = the_root source c.in_ok-root.root c.virtuals_of.result.now c.in_ok-root.ensures.joint c.virtuals_of.ensures in
    let p = err_from_is_err_and c.from_residual-in_err-groups.result c.from_residual-in_err-groups.ensures.1 in
    let fault = c.in_err-groups.field-0.0 in
    let order = c.in_ok-order.order.items in
    let bodies = c.in_ok-bodies.bodies.items in
    let accepted = accepted_by source c.in_ok-root.root is order c.as_slice-2.result.now c.as_slice-2.ensures.value c.in_ok-check_order.ensures.accepted in
    let each = bodies_by source c.in_ok-root.root is order c.as_slice-3.result.now bodies c.as_slice-3.ensures.value c.in_ok-bodies.ensures.ok in
    let built = are_built source.urdf (root_joint_of source) order bodies c.in_ok-order.ensures.ok accepted each in
    rw (p.1, p.2) (or_else c.in_err-groups.ensures.err (λ h. by_groups source fault c.in_ok-check_semantics.ensures.robot c.in_ok-check_semantics.ensures.virtuals
    c.in_ok-order.ensures.kept order c.in_ok-order.ensures.ok c.in_ok-order.ensures.few accepted bodies built
    (group_fault_by source bodies c.as_slice-4.result.now fault c.as_slice-4.ensures.value h)))

pub returns-in_err-states-clause-err : goal.returns-in_err-states-clause-err
returns-in_err-states-clause-err c =
    let source : Source = record { urdf = c.args.urdf.now; srdf = option_copied c.args.srdf; root = c.args.root } in
    let is = the_root source c.in_ok-root.root c.virtuals_of.result.now c.in_ok-root.ensures.joint c.virtuals_of.ensures in
    let p = err_from_is_err_and c.from_residual-in_err-states.result c.from_residual-in_err-states.ensures.1 in
    let fault = c.in_err-states.field-0.0 in
    let order = c.in_ok-order.order.items in
    let bodies = c.in_ok-bodies.bodies.items in
    let accepted = accepted_by source c.in_ok-root.root is order c.as_slice-2.result.now c.as_slice-2.ensures.value c.in_ok-check_order.ensures.accepted in
    let each = bodies_by source c.in_ok-root.root is order c.as_slice-3.result.now bodies c.as_slice-3.ensures.value c.in_ok-bodies.ensures.ok in
    let built = are_built source.urdf (root_joint_of source) order bodies c.in_ok-order.ensures.ok accepted each in
    let right = groups_by source bodies c.as_slice-4.result.now c.in_ok-groups.groups.items c.as_slice-4.ensures.value c.in_ok-groups.ensures.ok in
    let made = ap (λ bs. states_made bs (virtuals_in source.srdf) (states_in source.srdf)) (sym c.as_slice-5.ensures.value) in
    rw (p.1, p.2) (or_else c.in_err-states.ensures.gives (λ h. by_states source fault c.in_ok-check_semantics.ensures.robot c.in_ok-check_semantics.ensures.virtuals
    c.in_ok-order.ensures.kept order c.in_ok-order.ensures.ok c.in_ok-order.ensures.few accepted bodies built c.in_ok-groups.groups.items right (made ∙ h)))

pub returns-clause-ok : goal.returns-clause-ok
returns-clause-ok c =
    let source : Source = record { urdf = c.args.urdf.now; srdf = option_copied c.args.srdf; root = c.args.root } in
    let is = the_root source c.in_ok-root.root c.virtuals_of.result.now c.in_ok-root.ensures.joint c.virtuals_of.ensures in
    let order = c.in_ok-order.order.items in
    let bodies = c.in_ok-bodies.bodies.items in
    let accepted = accepted_by source c.in_ok-root.root is order c.as_slice-2.result.now c.as_slice-2.ensures.value c.in_ok-check_order.ensures.accepted in
    let each = bodies_by source c.in_ok-root.root is order c.as_slice-3.result.now bodies c.as_slice-3.ensures.value c.in_ok-bodies.ensures.ok in
    rw c.in_ok-new.ensures (record {
      name = c.in_ok-name.ensures ∙ c.name.ensures.same;
      of_robot = c.in_ok-check_semantics.ensures.robot;
      virtuals = c.in_ok-check_semantics.ensures.virtuals;
      bodies = are_built source.urdf (root_joint_of source) order bodies c.in_ok-order.ensures.ok accepted each;
      groups = groups_by source bodies c.as_slice-4.result.now c.in_ok-groups.groups.items c.as_slice-4.ensures.value c.in_ok-groups.ensures.ok;
      states = ap (λ bs. states_made bs (virtuals_in source.srdf) (states_in source.srdf)) (sym c.as_slice-5.ensures.value) ∙ c.in_ok-states.ensures.gives;
    })
