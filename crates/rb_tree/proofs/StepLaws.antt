-- The steps in which a robot is refused: each with at most one fault, and none where what its check asks for holds.
use Rattle.std.proofs.Common.{◌≡◌, ℕ, ◌≤◌, List, [], ◌∷◌, ◌++◌, length, Option, None, Some, Ok, sym, ◌∙◌, ap, subst, refl, arith}
use Rattle.std.specs.List.{AllByRecursion}
use Rattle.std.proofs.lemmas.Option.{slice_get_within}
use Rattle.rb_result.proofs.Results.{same_err, not-both}
use Rattle.rb_urdf.specs.Robot.{Robot, IsRobot, names_of_links}
use Rattle.rb_srdf.specs.declared.srdf.Virtual.{Virtual}
use Rattle.rb_srdf.specs.Srdf.{Semantics}
use Rattle.rb_tree.specs.declared.faults.TreeFault.{TreeFault}
use Rattle.rb_tree.specs.declared.faults.TreeKind.{TreeKind}
use Rattle.rb_tree.specs.declared.faults.TreeKind.TheVariants as Kind
use Rattle.rb_tree.specs.declared.faults.WhichFile.{WhichFile}
use Rattle.rb_tree.specs.declared.faults.WhichFile.TheVariants.{Urdf, Srdf}
use Rattle.rb_tree.specs.declared.groups.BodyGroup.{BodyGroup}
use Rattle.rb_tree.specs.declared.order.Stem.{Stem}
use Rattle.rb_tree.specs.declared.robot.Body.{Body}
use Rattle.rb_tree.specs.declared.sizes.TheConstants.{MAX_LINKS}
use Rattle.rb_tree.specs.declared.states.NamedState.{NamedState}
use Rattle.rb_tree.specs.Faults.{IsIn}
use Rattle.rb_tree.specs.Sizes.{HasOwnRootName, HaveOwnNames}
use Rattle.rb_tree.specs.Roots.{HaveOneParent, HasNoRoot, HasTwoRoots, HasRootBelow}
use Rattle.rb_tree.specs.Order.{IsOrder, IsAccepted}
use Rattle.rb_tree.specs.Groups.{AreGroupsOf, HasGroupFault}
use Rattle.rb_tree.specs.States.{states_made}
use Rattle.rb_tree.specs.Build.{Source, groups_in, states_in, virtuals_in, root_joint_of, AreBuilt, IsOfRobot, BearsLink}
use Rattle.rb_tree.specs.Refusals.{IsOtherRobot, BearsNoLink, HasBadGroup, HasBadState, Step, other_robot, virtual_child, many_links, two_parents, no_root, two_roots, cycle, root_name, name_twice, many_columns, constants, groups, states, Refuses, Passes, semantics_steps, order_steps, name_steps}
use Rattle.rb_tree.proofs.OneOrder.{no_too_many_links, no_two_parents, no_no_root, no_two_roots, no_cycle, no_root_name, no_name_twice, no_too_many_columns}
use Rattle.rb_tree.proofs.OneFault.{one_link, one_second_parent, the_root, one_second_root, one_cycle, one_named, one_name_twice, one_too_many}
use Rattle.rb_tree.proofs.ConstantFaults.{one_constant_fault, built_not_refused}
use Rattle.rb_tree.proofs.BodiesOnce.{bodies_once}
use Rattle.rb_tree.proofs.GroupLaws.{one_group_fault, right_groups}

-- ---- robots of another name
one_other_robot : (robot : Robot) (srdf : Option Semantics) (a b : ℕ) → IsOtherRobot robot srdf a → IsOtherRobot robot srdf b → a ≡ b
one_other_robot robot None a b p q = absurd p
one_other_robot robot (Some srdf) a b p q = p.1 ∙ sym q.1

not_other_robot : (robot : Robot) (srdf : Option Semantics) (at : ℕ) → IsOfRobot robot srdf → IsOtherRobot robot srdf at → ⊥
not_other_robot robot None at same r = r
not_other_robot robot (Some srdf) at same r = r.0 same

-- ---- the first of some things that is not as it should be
module _ {X : Type 0} (P : X → Type 0) where
  holds_at : (before : List X) (x : X) (after : List X) → AllByRecursion P (before ++ x ∷ after) → P x
  holds_at [] x after all = all.0
  holds_at (y ∷ before) x after all = holds_at before x after all.1

  one_not : (before_x : List X) (x : X) (after_x : List X) (before_y : List X) (y : X) (after_y : List X) → before_x ++ x ∷ after_x ≡ before_y ++ y ∷ after_y → AllByRecursion P before_x →
      AllByRecursion P before_y → (P x → ⊥) → (P y → ⊥) → x ≡ y
  one_not [] x after_x [] y after_y e p q not_x not_y = cc
  one_not [] x after_x (b ∷ before_y) y after_y e p q not_x not_y =
      let same : b ≡ x = cc in
      let Q : X → Type 0 = P in
      absurd (not_x (subst Q same q.0))
  one_not (a ∷ before_x) x after_x [] y after_y e p q not_x not_y =
      let same : a ≡ y = cc in
      let Q : X → Type 0 = P in
      absurd (not_y (subst Q same p.0))
  one_not (a ∷ before_x) x after_x (b ∷ before_y) y after_y e p q not_x not_y =
      let behind : before_x ++ x ∷ after_x ≡ before_y ++ y ∷ after_y = cc in
      one_not before_x x after_x before_y y after_y behind p.1 q.1 not_x not_y

one_bears_none : (names : List (List ℕ)) (virtuals : List Virtual) (a b : ℕ) → BearsNoLink names virtuals a → BearsNoLink names virtuals b → a ≡ b
one_bears_none names virtuals a b p q =
    let same = one_not (BearsLink names) p.before p.virtual p.after q.before q.virtual q.after (sym p.are ∙ q.are) p.first q.first p.none q.none in
    p.place ∙ ap (λ v. v.place) same ∙ sym q.place

all_bear : (names : List (List ℕ)) (virtuals : List Virtual) (at : ℕ) → AllByRecursion (BearsLink names) virtuals → BearsNoLink names virtuals at → ⊥
all_bear names virtuals at all h =
    let V : List Virtual → Type 0 = λ vs. AllByRecursion (BearsLink names) vs in
    h.none (holds_at (BearsLink names) h.before h.virtual h.after (subst V h.are all))

-- ---- roots
two_not_none : (robot : Robot) (at : ℕ) → HasTwoRoots robot at → HasNoRoot robot → ⊥
two_not_none robot at two none = two.no_child (none two.number (slice_get_within robot.links two.number two.is.link two.is.is))

one_not_none : (robot : Robot) (root : ℕ) → HasRootBelow robot.joints (length robot.links) root → HasNoRoot robot → ⊥
one_not_none robot root only none = only.no_child (none root only.within)

one_not_two : (robot : Robot) (root at : ℕ) → HasRootBelow robot.joints (length robot.links) root → HasTwoRoots robot at → ⊥
one_not_two robot root at only two =
    let within = slice_get_within robot.links two.number two.is.link two.is.is in
    let less = two.second.within in
    let x = the_root robot.joints (length robot.links) root two.number only within two.no_child in
    let y = the_root robot.joints (length robot.links) root two.first only (omega arith) two.second.no_child in
    omega arith

-- ---- at most one fault
same_in : (file : WhichFile) (kind : TreeKind) (x y : TreeFault) (P Q : Type 0) → (P → Q → x.at ≡ y.at) → IsIn file kind x P → IsIn file kind y Q → x ≡ y
same_in file kind x y P Q places p q =
    let files : x.file ≡ y.file = p.0 ∙ sym q.0 in
    let kinds : x.kind ≡ y.kind = p.1 ∙ sym q.1 in
    let at : x.at ≡ y.at = places p.2 q.2 in
    λ i. record { kind = kinds i; file = files i; at = at i }

module _ (source : Source) (kept : IsRobot source.urdf.links source.urdf.joints) where
  one_groups : (x y : TreeFault) → HasBadGroup source x → HasBadGroup source y → x ≡ y
  one_groups x y p q =
      let e = bodies_once source.urdf (root_joint_of source) q.bodies p.bodies kept q.built p.built in
      let G : List Body → Type 0 = λ bodies. HasGroupFault bodies (virtuals_in source.srdf) (groups_in source.srdf) y in
      one_group_fault p.bodies (virtuals_in source.srdf) (groups_in source.srdf) x y p.refused (subst G e q.refused)

  one_states : (x y : TreeFault) → HasBadState source x → HasBadState source y → x ≡ y
  one_states x y p q =
      let e = bodies_once source.urdf (root_joint_of source) p.bodies q.bodies kept p.built q.built in
      same_err x y (sym p.refused ∙ (ap (λ bodies. states_made bodies (virtuals_in source.srdf) (states_in source.srdf)) e ∙ q.refused))

  pub one_step : (step : Step) (x y : TreeFault) → Refuses source step x → Refuses source step y → x ≡ y
  one_step other_robot x y p q = same_in Srdf Kind.OtherRobot x y _ _ (one_other_robot source.urdf source.srdf x.at y.at) p q
  one_step virtual_child x y p q = same_in Srdf Kind.UnknownName x y _ _ (one_bears_none (names_of_links source.urdf.links) (virtuals_in source.srdf) x.at y.at) p q
  one_step many_links x y p q = same_in Urdf Kind.TooManyLinks x y _ _ (one_link source.urdf.links MAX_LINKS MAX_LINKS x.at y.at refl) p q
  one_step two_parents x y p q = same_in Urdf Kind.TwoParents x y _ _ (one_second_parent source.urdf.joints x.at y.at) p q
  one_step no_root x y p q = same_in Urdf Kind.NoRoot x y _ _ (λ a b. a.1 ∙ sym b.1) p q
  one_step two_roots x y p q = same_in Urdf Kind.TwoRoots x y _ _ (one_second_root source.urdf x.at y.at) p q
  one_step cycle x y p q = same_in Urdf Kind.Cycle x y _ _ (one_cycle source.urdf x.at y.at) p q
  one_step root_name x y p q = same_in Urdf Kind.RootName x y _ _ (one_named source.urdf (root_joint_of source) x.at y.at kept) p q
  one_step name_twice x y p q = same_in Urdf Kind.NameTwice x y _ _ (one_name_twice source.urdf (root_joint_of source) x.at y.at kept) p q
  one_step many_columns x y p q = same_in Urdf Kind.TooManyColumns x y _ _ (one_too_many source.urdf (root_joint_of source) x.at y.at kept) p q
  one_step constants x y p q = one_constant_fault source.urdf (root_joint_of source) kept x y p q
  one_step groups x y p q = one_groups x y p q
  one_step states x y p q = one_states x y p q

-- ---- where what is asked for holds
module _ (source : Source) where
  pub pass_other_robot : IsOfRobot source.urdf source.srdf → Passes source other_robot
  pass_other_robot same = λ fault r. not_other_robot source.urdf source.srdf fault.at same r.2

  pub pass_virtual_child : AllByRecursion (BearsLink (names_of_links source.urdf.links)) (virtuals_in source.srdf) → Passes source virtual_child
  pass_virtual_child all = λ fault r. all_bear (names_of_links source.urdf.links) (virtuals_in source.srdf) fault.at all r.2

  pub pass_many_links : length source.urdf.links ≤ MAX_LINKS → Passes source many_links
  pass_many_links few = λ fault r. no_too_many_links source.urdf fault.at few r.2

  pub pass_two_parents : HaveOneParent source.urdf.joints → Passes source two_parents
  pass_two_parents one = λ fault r. no_two_parents source.urdf fault.at one r.2

  pub pass_no_root_by_two : (at : ℕ) → HasTwoRoots source.urdf at → Passes source no_root
  pass_no_root_by_two at two = λ fault r. two_not_none source.urdf at two r.2.0

  pub pass_no_root : (root : ℕ) → HasRootBelow source.urdf.joints (length source.urdf.links) root → Passes source no_root
  pass_no_root root only = λ fault r. one_not_none source.urdf root only r.2.0

  pub pass_two_roots : (root : ℕ) → HasRootBelow source.urdf.joints (length source.urdf.links) root → Passes source two_roots
  pass_two_roots root only = λ fault r. one_not_two source.urdf root fault.at only r.2

  pub pass_root_name : HasOwnRootName (root_joint_of source) source.urdf.joints → Passes source root_name
  pass_root_name own = λ fault r. no_root_name (root_joint_of source) source.urdf.joints fault.at own r.2

  pub semantics_pass : IsOfRobot source.urdf source.srdf → AllByRecursion (BearsLink (names_of_links source.urdf.links)) (virtuals_in source.srdf) → AllByRecursion (Passes source) semantics_steps
  semantics_pass same all = (pass_other_robot same, (pass_virtual_child all, tt))

  module _ (kept : IsRobot source.urdf.links source.urdf.joints) where
    module _ (order : List Stem) (ordered : IsOrder source.urdf order) where
      pub pass_name_twice : HaveOwnNames (root_joint_of source) source.urdf.joints order → Passes source name_twice
      pass_name_twice own = λ fault r. no_name_twice source.urdf order kept ordered (root_joint_of source) fault.at own r.2

      -- a robot with few links that has an order
      pub order_passes : length source.urdf.links ≤ MAX_LINKS → AllByRecursion (Passes source) order_steps
      order_passes few = (
        pass_many_links few,
        (
          pass_two_parents ordered.one_parent,
          (
            (λ fault r. no_no_root source.urdf order kept ordered r.2.0),
            ((λ fault r. no_two_roots source.urdf order kept ordered fault.at r.2), ((λ fault r. no_cycle source.urdf order kept ordered fault.at r.2), tt)),
          ),
        ),
      )

      -- an order that is accepted
      pub names_pass : IsAccepted source.urdf (root_joint_of source) order → AllByRecursion (Passes source) name_steps
      names_pass accepted = (
        pass_root_name accepted.root_name,
        (
          pass_name_twice accepted.names,
          ((λ fault r. no_too_many_columns source.urdf order kept ordered (root_joint_of source) fault.at accepted.columns r.2), tt),
        ),
      )

    module _ (bodies : List Body) (built : AreBuilt source.urdf (root_joint_of source) bodies) where
      pub pass_constants : Passes source constants
      pass_constants = λ fault r. built_not_refused source.urdf (root_joint_of source) kept bodies fault built r

      pub pass_groups : (made : List BodyGroup) → AreGroupsOf bodies (virtuals_in source.srdf) (groups_in source.srdf) made → Passes source groups
      pass_groups made right =
          λ fault r.
          let e = bodies_once source.urdf (root_joint_of source) r.bodies bodies kept r.built built in
          let G : List Body → Type 0 = λ bodies. HasGroupFault bodies (virtuals_in source.srdf) (groups_in source.srdf) fault in
          right_groups bodies (virtuals_in source.srdf) (groups_in source.srdf) made fault right (subst G e r.refused)

      pub pass_states : (made : List NamedState) → states_made bodies (virtuals_in source.srdf) (states_in source.srdf) ≡ Ok made → Passes source states
      pass_states made right =
          λ fault r.
          let e = bodies_once source.urdf (root_joint_of source) r.bodies bodies kept r.built built in
          not-both (states_made bodies (virtuals_in source.srdf) (states_in source.srdf)) made fault right
          (ap (λ bodies. states_made bodies (virtuals_in source.srdf) (states_in source.srdf)) (sym e) ∙ r.refused)
