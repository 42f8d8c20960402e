-- The first fault of names and columns, as the program meets it: over a slice of the joints.
use Rattle.std.proofs.Common.{◌≡◌, List, [], ◌∷◌, sym, subst, refl}
use Rattle.rb_urdf.specs.declared.robot.UrdfJoint.{UrdfJoint}
use Rattle.rb_urdf.specs.Robot.{Robot, IsRobot}
use Rattle.rb_tree.specs.declared.faults.TreeFault.{TreeFault}
use Rattle.rb_tree.specs.declared.faults.TreeKind.TheVariants.{RootName, NameTwice, TooManyColumns}
use Rattle.rb_tree.specs.declared.order.Stem.{Stem}
use Rattle.rb_tree.specs.Faults.{IsOfKind}
use Rattle.rb_tree.specs.Sizes.{HasOwnRootName, HaveOwnNames, IsNamedAsRoot, SharesName, PassColumns}
use Rattle.rb_tree.specs.Order.{IsOrder}
use Rattle.rb_tree.specs.Build.{Source, root_joint_of}
use Rattle.rb_tree.specs.Refusals.{root_name, name_twice, many_columns, name_steps, IsFirstFault, IsFirstNameFault}
use Rattle.rb_tree.proofs.StepLaws.{pass_root_name, pass_name_twice}

-- what is known of a robot, the joint of its root and its joints is known of each source that has them
known : (robot : Robot) (root : UrdfJoint) (joints : List UrdfJoint) (fault : TreeFault) (P : Robot → UrdfJoint → List UrdfJoint → Type 0) → joints ≡ robot.joints → P robot root joints →
    ((source : Source) → P source.urdf (root_joint_of source) source.urdf.joints → IsFirstFault source name_steps fault) → IsFirstNameFault robot root fault
known robot root joints fault P ej h f =
    λ source same_robot same_root.
    let A : List UrdfJoint → Type 0 = λ xs. P robot root xs in
    let B : Robot → Type 0 = λ r. P r root r.joints in
    let C : UrdfJoint → Type 0 = λ j. P source.urdf j source.urdf.joints in
    f source (subst C (sym same_root) (subst B (sym same_robot) (subst A ej h)))

-- an order of a robot that keeps what robots keep
record IsOrdered (robot : Robot) (stems : List Stem) : Type 0 where
  kept : IsRobot robot.links robot.joints
  ordered : IsOrder robot stems

module _ (robot : Robot) (root : UrdfJoint) (joints : List UrdfJoint) (ej : joints ≡ robot.joints) (stems : List Stem) (kept : IsRobot robot.links robot.joints)
    (ordered : IsOrder robot stems) (fault : TreeFault) where
  pub root_name_first : IsOfKind RootName fault (IsNamedAsRoot root joints fault.at) → IsFirstNameFault robot root fault
  root_name_first h =
      known robot root joints fault (λ r j js. IsOfKind RootName fault (IsNamedAsRoot j js fault.at)) ej h (λ source known. record {
        before = [];
        step = root_name;
        after = name_twice ∷ many_columns ∷ [];
        order_is = refl;
        passed = tt;
        refused = known;
      })

  pub name_twice_first : HasOwnRootName root joints → IsOfKind NameTwice fault (SharesName root joints stems fault.at) → IsFirstNameFault robot root fault
  name_twice_first own h =
      known robot root joints fault (λ r j js. HasOwnRootName j js × IsOrder r stems × IsOfKind NameTwice fault (SharesName j js stems fault.at)) ej (own, ordered, h)
      (λ source known. record {
        before = root_name ∷ [];
        step = name_twice;
        after = many_columns ∷ [];
        order_is = refl;
        passed = (pass_root_name source known.0, tt);
        refused = (known.2.0, known.2.1, record { stems = stems; order = known.1; shares = known.2.2 });
      })

  pub many_columns_first : HasOwnRootName root joints → HaveOwnNames root joints stems → IsOfKind TooManyColumns fault (PassColumns root joints stems fault.at) →
      IsFirstNameFault robot root fault
  many_columns_first own names h =
      known robot root joints fault
      (λ r j js. HasOwnRootName j js × HaveOwnNames j js stems × IsOrdered r stems × IsOfKind TooManyColumns fault (PassColumns j js stems fault.at)) ej
      (own, names, record { kept = kept; ordered = ordered }, h) (λ source known. record {
        before = root_name ∷ name_twice ∷ [];
        step = many_columns;
        after = [];
        order_is = refl;
        passed = (pass_root_name source known.0, (pass_name_twice source known.2.kept stems known.2.ordered known.1, tt));
        refused = (known.3.0, known.3.1, record { stems = stems; order = known.2.ordered; pass = known.3.2 });
      })
