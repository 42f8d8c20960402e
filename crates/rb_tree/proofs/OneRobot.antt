-- What a robot is built from gives at most one robot, and none where there is a fault.
use Rattle.std.proofs.Common.{◌≡◌, List, ◌++◌, sym, ◌∙◌, ap, subst}
use Rattle.std.specs.List.{AllByRecursion}
use Rattle.rb_result.proofs.Results.{same_ok}
use Rattle.rb_tree.specs.declared.faults.TreeFault.{TreeFault}
use Rattle.rb_tree.specs.declared.robot.Body.{Body}
use Rattle.rb_tree.specs.Robot.{Tree}
use Rattle.rb_tree.specs.Groups.{AreGroupsOf}
use Rattle.rb_tree.specs.States.{states_made}
use Rattle.rb_tree.specs.Build.{Source, groups_in, states_in, virtuals_in, root_joint_of, IsBuilt}
use Rattle.rb_tree.specs.Refusals.{Step, Passes, HasFault, semantics_steps, order_steps, name_steps, made_steps, steps}
use Rattle.rb_urdf.specs.Robot.{IsRobot}
use Rattle.rb_tree.proofs.FirstFaults.{all_behind, none_first, one_first}
use Rattle.rb_tree.proofs.StepLaws.{one_step, semantics_pass, order_passes, names_pass, pass_constants, pass_groups, pass_states}
use Rattle.rb_tree.proofs.BodiesOnce.{bodies_once}
use Rattle.rb_tree.proofs.GroupLaws.{groups_once}

pub built_once : (source : Source) (a b : Tree) → IsRobot source.urdf.links source.urdf.joints → IsBuilt source a → IsBuilt source b → a ≡ b
built_once source a b kept p q =
    let virtuals = virtuals_in source.srdf in
    let names : a.name ≡ b.name = p.name ∙ sym q.name in
    let bodies : a.bodies ≡ b.bodies = bodies_once source.urdf (root_joint_of source) a.bodies b.bodies kept p.bodies q.bodies in
    let G : List Body → Type 0 = λ bodies. AreGroupsOf bodies virtuals (groups_in source.srdf) a.groups in
    let groups : a.groups ≡ b.groups = groups_once b.bodies virtuals (groups_in source.srdf) a.groups b.groups (subst G bodies p.groups) q.groups in
    let states : a.states ≡ b.states =
    same_ok a.states b.states (sym p.states ∙ (ap (λ bodies. states_made bodies virtuals (states_in source.srdf)) bodies ∙ q.states)) in
    λ i. record { name = names i; bodies = bodies i; groups = groups i; states = states i }

pub one_fault : (source : Source) (x y : TreeFault) → IsRobot source.urdf.links source.urdf.joints → HasFault source x → HasFault source y → x ≡ y
one_fault source x y kept p q = one_first source (one_step source kept) steps x y p q

pub faults_exclude : (source : Source) (fault : TreeFault) (tree : Tree) → IsRobot source.urdf.links source.urdf.joints → HasFault source fault → IsBuilt source tree → ⊥
faults_exclude source fault tree kept f t =
    let P : Step → Type 0 = λ step. Passes source step in
    let order = t.bodies.order in
    let first = semantics_pass source t.of_robot t.virtuals in
    let second = order_passes source kept order t.bodies.ordered t.bodies.accepted.links in
    let third = names_pass source kept order t.bodies.ordered t.bodies.accepted in
    let last : AllByRecursion P made_steps = (
      pass_constants source kept tree.bodies t.bodies,
      (pass_groups source kept tree.bodies t.bodies tree.groups t.groups, (pass_states source kept tree.bodies t.bodies tree.states t.states, tt)),
    ) in
    let all = all_behind P (semantics_steps ++ order_steps ++ name_steps) made_steps
    (all_behind P (semantics_steps ++ order_steps) name_steps (all_behind P semantics_steps order_steps first second) third) last in
    none_first source fault steps all f
