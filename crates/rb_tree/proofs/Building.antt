-- A robot built from its files, or its first fault, step by step.
use Rattle.std.proofs.Common.{◌≡◌, ◌⊎◌, ◌≤◌, inl, inr, List, [], ◌∷◌, ◌++◌, length, Err, refl, sym, subst}
use Rattle.std.specs.List.{AllByRecursion, AllZip}
use Rattle.rb_urdf.specs.declared.robot.UrdfJoint.{UrdfJoint}
use Rattle.rb_urdf.specs.Robot.{IsRobot, names_of_links}
use Rattle.rb_tree.specs.declared.faults.TreeFault.{TreeFault}
use Rattle.rb_tree.specs.declared.groups.BodyGroup.{BodyGroup}
use Rattle.rb_tree.specs.declared.order.Stem.{Stem}
use Rattle.rb_tree.specs.declared.robot.Body.{Body}
use Rattle.rb_tree.specs.declared.sizes.TheConstants.{MAX_LINKS}
use Rattle.rb_tree.specs.Order.{IsOrder, IsAccepted}
use Rattle.rb_tree.specs.Groups.{AreGroupsOf, HasGroupFault}
use Rattle.rb_tree.specs.States.{states_made}
use Rattle.rb_tree.specs.Build.{Source, groups_in, states_in, virtuals_in, root_joint_of, AreBuilt, IsOfRobot, BearsLink, IsBodyOf}
use Rattle.rb_tree.specs.Refusals.{Step, constants, groups, states, semantics_steps, order_steps, name_steps, made_steps, Passes, HasConstantFault, IsFirstFault, HasFault, IsFirstSemanticsFault, IsFirstOrderFault, IsFirstNameFault}
use Rattle.rb_tree.proofs.FirstFaults.{all_behind, first_in_front, first_behind}
use Rattle.rb_tree.proofs.StepLaws.{semantics_pass, order_passes, names_pass, pass_constants, pass_groups}

module _ (source : Source) (fault : TreeFault) where
  pub by_semantics : IsFirstSemanticsFault source.urdf source.srdf fault → HasFault source fault
  by_semantics h = first_in_front source fault semantics_steps (order_steps ++ name_steps ++ made_steps) (h source.root)

  module _ (of_robot : IsOfRobot source.urdf source.srdf) (bear : AllByRecursion (BearsLink (names_of_links source.urdf.links)) (virtuals_in source.srdf)) where
    pub by_order : IsFirstOrderFault source.urdf fault → HasFault source fault
    by_order h =
        first_behind source fault semantics_steps (order_steps ++ name_steps ++ made_steps) (semantics_pass source of_robot bear)
        (first_in_front source fault order_steps (name_steps ++ made_steps) (h source.srdf source.root))

    module _ (kept : IsRobot source.urdf.links source.urdf.joints) (order : List Stem) (ordered : IsOrder source.urdf order) (few : length source.urdf.links ≤ MAX_LINKS) where
      ordered_passes : AllByRecursion (Passes source) (semantics_steps ++ order_steps)
      ordered_passes =
          let P : Step → Type 0 = λ step. Passes source step in
          all_behind P semantics_steps order_steps (semantics_pass source of_robot bear) (order_passes source kept order ordered few)

      pub by_names : IsFirstFault source name_steps fault → HasFault source fault
      by_names h = first_behind source fault (semantics_steps ++ order_steps) (name_steps ++ made_steps) ordered_passes (first_in_front source fault name_steps made_steps h)

      module _ (accepted : IsAccepted source.urdf (root_joint_of source) order) where
        by_made : IsFirstFault source made_steps fault → HasFault source fault
        by_made h =
            let P : Step → Type 0 = λ step. Passes source step in
            first_behind source fault (semantics_steps ++ order_steps ++ name_steps) made_steps
            (all_behind P (semantics_steps ++ order_steps) name_steps ordered_passes (names_pass source kept order ordered accepted)) h

        pub by_constants : HasConstantFault source.urdf (root_joint_of source) fault → HasFault source fault
        by_constants h = by_made (record { before = []; step = constants; after = groups ∷ states ∷ []; order_is = refl; passed = tt; refused = h })

        module _ (bodies : List Body) (built : AreBuilt source.urdf (root_joint_of source) bodies) where
          pub by_groups : HasGroupFault bodies (virtuals_in source.srdf) (groups_in source.srdf) fault → HasFault source fault
          by_groups h =
              by_made (record {
                before = constants ∷ [];
                step = groups;
                after = states ∷ [];
                order_is = refl;
                passed = (pass_constants source kept bodies built, tt);
                refused = record { bodies = bodies; built = built; refused = h };
              })

          pub by_states : (made : List BodyGroup) → AreGroupsOf bodies (virtuals_in source.srdf) (groups_in source.srdf) made →
              states_made bodies (virtuals_in source.srdf) (states_in source.srdf) ≡ Err fault → HasFault source fault
          by_states made right h =
              by_made (record {
                before = constants ∷ groups ∷ [];
                step = states;
                after = [];
                order_is = refl;
                passed = (pass_constants source kept bodies built, (pass_groups source kept bodies built made right, tt));
                refused = record { bodies = bodies; built = built; refused = h };
              })

-- what is known of a joint, an order and bodies is known of those that are the same
module _ (source : Source) (joint : UrdfJoint) (is : joint ≡ root_joint_of source) where
  pub accepted_by : (order seen : List Stem) → seen ≡ order → IsAccepted source.urdf joint seen → IsAccepted source.urdf (root_joint_of source) order
  accepted_by order seen same h =
      let O : List Stem → Type 0 = λ stems. IsAccepted source.urdf joint stems in
      let J : UrdfJoint → Type 0 = λ j. IsAccepted source.urdf j order in
      subst J is (subst O same h)

  pub constants_by : (fault : TreeFault) → HasConstantFault source.urdf joint fault → HasConstantFault source.urdf (root_joint_of source) fault
  constants_by fault h = let J : UrdfJoint → Type 0 = λ j. HasConstantFault source.urdf j fault in subst J is h

  pub bodies_by : (order seen : List Stem) (bodies : List Body) → seen ≡ order → AllZip (IsBodyOf source.urdf joint seen) seen bodies →
      AllZip (IsBodyOf source.urdf (root_joint_of source) order) order bodies
  bodies_by order seen bodies same h =
      let O : List Stem → Type 0 = λ stems. AllZip (IsBodyOf source.urdf joint stems) stems bodies in
      let J : UrdfJoint → Type 0 = λ j. AllZip (IsBodyOf source.urdf j order) order bodies in
      subst J is (subst O same h)

  pub names_by : (fault : TreeFault) → IsFirstNameFault source.urdf joint fault → IsFirstFault source name_steps fault
  names_by fault h = h source refl (sym is)

pub groups_by : (source : Source) (bodies seen : List Body) (made : List BodyGroup) → seen ≡ bodies → AreGroupsOf seen (virtuals_in source.srdf) (groups_in source.srdf) made →
    AreGroupsOf bodies (virtuals_in source.srdf) (groups_in source.srdf) made
groups_by source bodies seen made same h =
    let B : List Body → Type 0 = λ bs. AreGroupsOf bs (virtuals_in source.srdf) (groups_in source.srdf) made in
    subst B same h

pub group_fault_by : (source : Source) (bodies seen : List Body) (fault : TreeFault) → seen ≡ bodies → HasGroupFault seen (virtuals_in source.srdf) (groups_in source.srdf) fault →
    HasGroupFault bodies (virtuals_in source.srdf) (groups_in source.srdf) fault
group_fault_by source bodies seen fault same h =
    let B : List Body → Type 0 = λ bs. HasGroupFault bs (virtuals_in source.srdf) (groups_in source.srdf) fault in
    subst B same h

-- want of memory, or a fault that follows from another
pub or_else : {A B C : Type 0} → A ⊎ B → (B → C) → A ⊎ C
or_else (inl a) f = inl a
or_else (inr b) f = inr (f b)
