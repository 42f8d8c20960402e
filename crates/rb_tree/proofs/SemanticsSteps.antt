-- The first fault of the robot's name and the virtual joints, as the program meets it: over slices.
use Rattle.std.proofs.Common.{◌≡◌, ◌≤◌, ◌^◌, ℕ, List, [], ◌∷◌, length, Some, sym, subst, ap, refl, arith}
use Rattle.std.proofs.lemmas.List.{length-map}
use Rattle.rb_tags.specs.Names.{AreDifferent}
use Rattle.rb_urdf.specs.declared.robot.UrdfLink.{UrdfLink}
use Rattle.rb_urdf.specs.Robot.{Robot, IsRobot, names_of_links}
use Rattle.rb_srdf.specs.declared.srdf.Virtual.{Virtual}
use Rattle.rb_srdf.specs.Srdf.{Semantics}
use Rattle.rb_tree.specs.declared.faults.TreeFault.{TreeFault}
use Rattle.rb_tree.specs.declared.faults.TreeKind.TheVariants.{OtherRobot, UnknownName}
use Rattle.rb_tree.specs.declared.faults.WhichFile.TheVariants.{Srdf}
use Rattle.rb_tree.specs.Faults.{IsIn}
use Rattle.rb_tree.specs.Build.{IsOfRobot}
use Rattle.rb_tree.specs.Refusals.{IsOtherRobot, BearsNoLink, other_robot, virtual_child, IsFirstSemanticsFault}
use Rattle.rb_tree.proofs.StepLaws.{pass_other_robot}

pub differ_of_slice : (robot : Robot) (links : List UrdfLink) → links ≡ robot.links → IsRobot robot.links robot.joints → AreDifferent (names_of_links links)
differ_of_slice robot links e kept =
    let P : List UrdfLink → Type 0 = λ xs. AreDifferent (names_of_links xs) in
    subst P (sym e) kept.link_names.differ

pub few_names : (robot : Robot) (links : List UrdfLink) (names : List (List ℕ)) → links ≡ robot.links → IsRobot robot.links robot.joints → names ≡ names_of_links links → length names ≤ 2 ^ 32
few_names robot links names e kept are =
    let few = kept.few_links in
    omega (arith, ap length are, length-map links (λ (l : UrdfLink). l.name), ap (length {A = UrdfLink}) e)

pub bears_none_of_slices : (robot : Robot) (srdf : Semantics) (links : List UrdfLink) (names : List (List ℕ)) (virtuals : List Virtual) (at : ℕ) → links ≡ robot.links →
    names ≡ names_of_links links → virtuals ≡ srdf.virtuals → BearsNoLink names virtuals at → BearsNoLink (names_of_links robot.links) srdf.virtuals at
bears_none_of_slices robot srdf links names virtuals at el en ev h =
    let N : List (List ℕ) → Type 0 = λ xs. BearsNoLink xs virtuals at in
    let L : List UrdfLink → Type 0 = λ xs. BearsNoLink (names_of_links xs) virtuals at in
    let V : List Virtual → Type 0 = λ xs. BearsNoLink (names_of_links robot.links) xs at in
    subst V ev (subst L el (subst N en h))

module _ (robot : Robot) (srdf : Semantics) (fault : TreeFault) where
  pub other_robot_first : IsIn Srdf OtherRobot fault (IsOtherRobot robot (Some srdf) fault.at) → IsFirstSemanticsFault robot (Some srdf) fault
  other_robot_first h = λ root. record { before = []; step = other_robot; after = virtual_child ∷ []; order_is = refl; passed = tt; refused = h }

  pub virtual_child_first : IsOfRobot robot (Some srdf) → IsIn Srdf UnknownName fault (BearsNoLink (names_of_links robot.links) srdf.virtuals fault.at) →
      IsFirstSemanticsFault robot (Some srdf) fault
  virtual_child_first same h =
      λ root.
      record {
        before = other_robot ∷ [];
        step = virtual_child;
        after = [];
        order_is = refl;
        passed = (pass_other_robot (record { urdf = robot; srdf = Some srdf; root = root }) same, tt);
        refused = h;
      }
