-- The order and its faults, as the program meets them: over slices of the robot.
use Rattle.std.proofs.Common.{◌≡◌, ◌<◌, ◌≤◌, ℕ, List, [], ◌∷◌, Option, length, get_or, ap, subst, refl, arith, inl, inr}
use Rattle.rb_tags.specs.declared.root.RootKind.{RootKind}
use Rattle.rb_urdf.specs.declared.robot.UrdfJoint.{UrdfJoint}
use Rattle.rb_urdf.specs.declared.robot.UrdfLink.{UrdfLink}
use Rattle.rb_urdf.specs.Robot.{Robot}
use Rattle.rb_srdf.specs.Srdf.{Semantics}
use Rattle.rb_tree.specs.declared.sizes.TheConstants.{MAX_LINKS}
use Rattle.rb_tree.specs.declared.order.Stem.{Stem}
use Rattle.rb_tree.specs.declared.faults.TreeFault.{TreeFault}
use Rattle.rb_tree.specs.declared.faults.TreeKind.TheVariants.{TooManyLinks, TwoParents, Cycle}
use Rattle.rb_tree.specs.declared.faults.WhichFile.TheVariants.{Urdf}
use Rattle.rb_tree.specs.Faults.{IsOfKind, IsLinkPlace}
use Rattle.rb_tree.specs.Order.{IsOrder}
use Rattle.rb_tree.specs.Grow.{HasLink, IsGrown, IsClosed, IsFirstApart}
use Rattle.rb_tree.specs.Roots.{HaveOneParent, HasTwoParents, HasRootBelow, HasRootFault}
use Rattle.rb_tree.specs.Build.{Source}
use Rattle.rb_tree.specs.Refusals.{many_links, two_parents, no_root, two_roots, cycle, order_steps, Refuses, IsFirstFault}
use Rattle.rb_tree.proofs.Ordered.{order_grown, cycle_grown}
use Rattle.rb_tree.proofs.StepLaws.{pass_many_links, pass_two_parents, pass_no_root_by_two, pass_no_root, pass_two_roots}

-- ---- the steps of the order, one after another
module _ (source : Source) (fault : TreeFault) where
  pub many_first : Refuses source many_links fault → IsFirstFault source order_steps fault
  many_first r = record { before = []; step = many_links; after = two_parents ∷ no_root ∷ two_roots ∷ cycle ∷ []; order_is = refl; passed = tt; refused = r }

  module _ (few : length source.urdf.links ≤ MAX_LINKS) where
    pub parents_first : Refuses source two_parents fault → IsFirstFault source order_steps fault
    parents_first r = record { before = many_links ∷ []; step = two_parents; after = no_root ∷ two_roots ∷ cycle ∷ []; order_is = refl; passed = (pass_many_links source few, tt); refused = r }

    module _ (one : HaveOneParent source.urdf.joints) where
      pub root_first : HasRootFault source.urdf fault → IsFirstFault source order_steps fault
      root_first h =
          elim h [
            | inl none ↦ record {
              before = many_links ∷ two_parents ∷ [];
              step = no_root;
              after = two_roots ∷ cycle ∷ [];
              order_is = refl;
              passed = (pass_many_links source few, (pass_two_parents source one, tt));
              refused = none;
            }
            | inr two ↦ record {
              before = many_links ∷ two_parents ∷ no_root ∷ [];
              step = two_roots;
              after = cycle ∷ [];
              order_is = refl;
              passed = (pass_many_links source few, (pass_two_parents source one, (pass_no_root_by_two source fault.at two.2, tt)));
              refused = two;
            }
          ]

      pub cycle_first : (root : ℕ) → HasRootBelow source.urdf.joints (length source.urdf.links) root → Refuses source cycle fault → IsFirstFault source order_steps fault
      cycle_first root only r = record {
        before = many_links ∷ two_parents ∷ no_root ∷ two_roots ∷ [];
        step = cycle;
        after = [];
        order_is = refl;
        passed = (pass_many_links source few, (pass_two_parents source one, (pass_no_root source root only, (pass_two_roots source root only, tt))));
        refused = r;
      }

-- ---- over slices of the robot
module _ (robot : Robot) (links : List UrdfLink) (joints : List UrdfJoint) (el : links ≡ robot.links) (ej : joints ≡ robot.joints) where
  pub few_of_slices : length links ≤ MAX_LINKS → length robot.links ≤ MAX_LINKS
  few_of_slices few = omega (arith, ap (length {A = UrdfLink}) el)

  pub one_parent_of_slices : HaveOneParent joints → HaveOneParent robot.joints
  one_parent_of_slices one = subst HaveOneParent ej one

  -- a fault of the order, whatever else the robot is built from
  module _ (srdf : Option Semantics) (asked : Option RootKind) (fault : TreeFault) where
    abbrev source : Source
    source = record { urdf = robot; srdf = srdf; root = asked }

    pub many_of_slices : IsOfKind TooManyLinks fault (IsLinkPlace links MAX_LINKS fault.at) → IsFirstFault source order_steps fault
    many_of_slices h =
        let P : List UrdfLink → Type 0 = λ xs. IsLinkPlace xs MAX_LINKS fault.at in
        many_first source fault (h.0, h.1, subst P el h.2)

    pub parents_of_slices : length links ≤ MAX_LINKS → IsOfKind TwoParents fault (HasTwoParents joints fault.at) → IsFirstFault source order_steps fault
    parents_of_slices few h =
        let P : List UrdfJoint → Type 0 = λ xs. HasTwoParents xs fault.at in
        parents_first source fault (few_of_slices few) (h.0, h.1, subst P ej h.2)

    pub root_of_slices : length links ≤ MAX_LINKS → HaveOneParent joints → HasRootFault robot fault → IsFirstFault source order_steps fault
    root_of_slices few one h = root_first source fault (few_of_slices few) (one_parent_of_slices one) h

  module _ (root : ℕ) (stems seen : List Stem) (es : seen ≡ stems) (grown : IsGrown joints (length links) root stems)
      (only : HasRootBelow robot.joints (length robot.links) root) where
    grown_whole : IsGrown robot.joints (length robot.links) root stems
    grown_whole =
        let P : List UrdfJoint → Type 0 = λ xs. IsGrown xs (length links) root stems in
        let Q : List UrdfLink → Type 0 = λ xs. IsGrown robot.joints (length xs) root stems in
        subst Q el (subst P ej grown)

    pub order_of_slices : HaveOneParent joints → ((link : ℕ) → link < length links → HasLink seen link) → IsOrder robot stems
    order_of_slices one all =
        let P : List Stem → Type 0 = λ xs. (link : ℕ) → link < length robot.links → HasLink xs link in
        order_grown robot root stems grown_whole only (subst HaveOneParent ej one)
        (subst P es (λ link h. all link (omega (arith, ap (length {A = UrdfLink}) el))))

    pub cycle_of_slices : length links ≤ MAX_LINKS → HaveOneParent joints → IsClosed joints stems → (apart : ℕ) (link : UrdfLink) (fault : TreeFault) → IsFirstApart seen (length links) apart →
        link ≡ get_or links apart link → fault ≡ record { kind = Cycle; file = Urdf; at = link.place } → (srdf : Option Semantics) (asked : Option RootKind) →
        IsFirstFault (record { urdf = robot; srdf = srdf; root = asked }) order_steps fault
    cycle_of_slices few one closed apart link fault first is says srdf asked =
        let C : List UrdfJoint → Type 0 = λ xs. IsClosed xs stems in
        let F : List Stem → Type 0 = λ xs. IsFirstApart xs (length links) apart in
        let L : List UrdfLink → Type 0 = λ xs. IsFirstApart stems (length xs) apart in
        let R : List UrdfLink → Type 0 = λ xs. link ≡ get_or xs apart link in
        cycle_first (record { urdf = robot; srdf = srdf; root = asked }) fault (few_of_slices few) (one_parent_of_slices one) root only (
          ap (λ f. f.file) says,
          ap (λ f. f.kind) says,
          cycle_grown robot root stems apart link fault.at grown_whole (subst C ej closed) only (subst L el (subst F es first)) (subst R el is)
              (ap (λ f. f.at) says),
        )
