-- The places of two faults of one kind of a robot are the same.
use Rattle.std.proofs.Common.{◌≡◌, ◌<◌, ◌≤◌, ◌+◌, ℕ, List, length, take, sym, ◌∙◌, ap, subst, arith, inl, inr}
use Rattle.std.specs.Prelude.{slice_get, Some}
use Rattle.std.specs.List.{sum_by}
use Rattle.std.proofs.lemmas.Bool.{cases_order}
use Rattle.std.proofs.lemmas.Option.{same_Some}
use Rattle.std.proofs.lemmas.List.{take-take}
use Rattle.std.proofs.lemmas.List.Sums.{sum_by-take-le}
use Rattle.rb_urdf.specs.declared.robot.UrdfJoint.{UrdfJoint}
use Rattle.rb_urdf.specs.declared.robot.UrdfLink.{UrdfLink}
use Rattle.rb_urdf.specs.Robot.{Robot, IsRobot}
use Rattle.rb_tree.specs.declared.order.Stem.{Stem}
use Rattle.rb_tree.specs.Order.{Reaches, HasCycle, HasNameTwice, HasTooManyColumns}
use Rattle.rb_tree.specs.Sizes.{bearer_of, stem_columns, PassColumns, IsNamedAsRoot, StemsShare, SharesName}
use Rattle.rb_tree.specs.Roots.{IsChild, HasTwoParents, HasTwoRoots, HasRootBelow}
use Rattle.rb_tree.specs.Faults.{IsLinkPlace}
use Rattle.rb_tree.proofs.ListLaws.{same_item, apart, pair_below}
use Rattle.rb_tree.proofs.OneOrder.{one_order}

-- two places at which the same first thing stands
same_number : (a b : ℕ) → (a < b → ⊥) → (b < a → ⊥) → a ≡ b
same_number a b not_less not_more =
    elim (cases_order a b) [ inl e ↦ e | inr o ↦ elim o [ inl lt ↦ absurd (not_less lt) | inr gt ↦ absurd (not_more gt) ] ]

pub one_link : (links : List UrdfLink) (i j a b : ℕ) → i ≡ j → IsLinkPlace links i a → IsLinkPlace links j b → a ≡ b
one_link links i j a b e ha hb = ha.place ∙ ap (λ l. l.place) (same_item links i j ha.link hb.link e ha.is hb.is) ∙ sym hb.place

pub one_second_parent : (joints : List UrdfJoint) (a b : ℕ) → HasTwoParents joints a → HasTwoParents joints b → a ≡ b
one_second_parent joints a b ha hb =
    let number = same_number ha.number hb.number (λ lt. pair_below (λ (x y : UrdfJoint). x.child ≡ y.child) joints ha.number hb.number ha.joint ha.is ha.twice lt hb.first)
    (λ gt. pair_below (λ (x y : UrdfJoint). x.child ≡ y.child) joints hb.number ha.number hb.joint hb.is hb.twice gt ha.first) in
    ha.place ∙ ap (λ j. j.place) (same_item joints ha.number hb.number ha.joint hb.joint number ha.is hb.is) ∙ sym hb.place

-- a link below n that is no child is the one
pub the_root : (joints : List UrdfJoint) (n root link : ℕ) → HasRootBelow joints n root → link < n → (IsChild joints link → ⊥) → link ≡ root
the_root joints n root link only within no_child =
    elim (cases_order link root) [
      | inl e ↦ e
      | inr o ↦ elim o [
        | inl lt ↦ absurd (no_child (only.only link within (λ e. omega arith)))
        | inr gt ↦ absurd (no_child (only.only link within (λ e. omega arith)))
      ]
    ]

second_below : (robot : Robot) (a b : ℕ) (ha : HasTwoRoots robot a) (hb : HasTwoRoots robot b) → ha.number < hb.number → ⊥
second_below robot a b ha hb lt =
    let less = ha.second.within in
    let x = the_root robot.joints hb.number hb.first ha.number hb.second lt ha.no_child in
    let y = the_root robot.joints hb.number hb.first ha.first hb.second (omega arith) ha.second.no_child in
    omega arith

pub one_second_root : (robot : Robot) (a b : ℕ) → HasTwoRoots robot a → HasTwoRoots robot b → a ≡ b
one_second_root robot a b ha hb =
    one_link robot.links ha.number hb.number a b (same_number ha.number hb.number (second_below robot a b ha hb) (second_below robot b a hb ha)) ha.is hb.is

cycle_below : (robot : Robot) (a b : ℕ) (ha : HasCycle robot a) (hb : HasCycle robot b) → ha.root ≡ hb.root → ha.number < hb.number → ⊥
cycle_below robot a b ha hb same lt =
    let P : ℕ → Type 0 = λ r. Reaches robot.joints r ha.number in
    ha.apart (subst P (sym same) (hb.first ha.number lt))

pub one_cycle : (robot : Robot) (a b : ℕ) → HasCycle robot a → HasCycle robot b → a ≡ b
one_cycle robot a b ha hb =
    let same : ha.root ≡ hb.root = the_root robot.joints (length robot.links) hb.root ha.root hb.only ha.only.within ha.only.no_child in
    one_link robot.links ha.number hb.number a b
    (same_number ha.number hb.number (cycle_below robot a b ha hb same) (cycle_below robot b a hb ha (sym same))) ha.is hb.is

pub one_named : (robot : Robot) (root : UrdfJoint) (a b : ℕ) → IsRobot robot.links robot.joints → IsNamedAsRoot root robot.joints a → IsNamedAsRoot root robot.joints b → a ≡ b
one_named robot root a b kept ha hb =
    elim (cases_order ha.number hb.number) [
      | inl e ↦ ha.place ∙ ap (λ (j : UrdfJoint). j.place) (same_item robot.joints ha.number hb.number ha.joint hb.joint e ha.is hb.is) ∙ sym hb.place
      | inr o ↦ absurd (apart (λ (j : UrdfJoint). j.name) robot.joints ha.number hb.number ha.joint hb.joint kept.joint_names.differ (λ e. elim o [ inl lt ↦ omega arith | inr gt ↦ omega arith ]) ha.is hb.is (ha.name ∙ sym hb.name))
    ]

module _ (root : UrdfJoint) (joints : List UrdfJoint) (stems : List Stem) where
  -- one joint bears the body at one place
  one_bearer : (i j : ℕ) (s t : Stem) (x y : UrdfJoint) → i ≡ j → slice_get stems i ≡ Some s → slice_get stems j ≡ Some t → bearer_of root joints s.joint ≡ Some x →
      bearer_of root joints t.joint ≡ Some y → x ≡ y
  one_bearer i j s t x y e p q h k =
      let same = same_item stems i j s t e p q in
      same_Some x y (sym h ∙ ap (λ (r : Stem). bearer_of root joints r.joint) same ∙ k)

  one_shared : (a b : ℕ) → SharesName root joints stems a → SharesName root joints stems b → a ≡ b
  one_shared a b ha hb =
      let number = same_number ha.number hb.number (λ lt. pair_below (StemsShare root joints) stems ha.number hb.number ha.stem ha.stem_is ha.shares lt hb.first)
      (λ gt. pair_below (StemsShare root joints) stems hb.number ha.number hb.stem hb.stem_is hb.shares gt ha.first) in
      ha.place ∙ ap (λ (j : UrdfJoint). j.place) (one_bearer ha.number hb.number ha.stem hb.stem ha.joint hb.joint number ha.stem_is hb.stem_is ha.bears hb.bears) ∙ sym hb.place

  pass_below : (a b : ℕ) (ha : PassColumns root joints stems a) (hb : PassColumns root joints stems b) → ha.number < hb.number → ⊥
  pass_below a b ha hb lt =
      let f = stem_columns root joints in
      let le : ha.number + 1 ≤ hb.number = omega arith in
      let e : sum_by f (take (ha.number + 1) (take hb.number stems)) ≡ sum_by f (take (ha.number + 1) stems) = ap (sum_by f) (take-take (ha.number + 1) hb.number stems le) in
      let passed = ha.passed in
      let before = hb.before in
      omega (arith, e, sum_by-take-le f (take hb.number stems) (ha.number + 1))

  one_pass : (a b : ℕ) → PassColumns root joints stems a → PassColumns root joints stems b → a ≡ b
  one_pass a b ha hb =
      let number = same_number ha.number hb.number (pass_below a b ha hb) (pass_below b a hb ha) in
      ha.place ∙ ap (λ (j : UrdfJoint). j.place) (one_bearer ha.number hb.number ha.stem hb.stem ha.joint hb.joint number ha.stem_is hb.stem_is ha.bears hb.bears) ∙ sym hb.place

pub one_name_twice : (robot : Robot) (root : UrdfJoint) (a b : ℕ) → IsRobot robot.links robot.joints → HasNameTwice robot root a → HasNameTwice robot root b → a ≡ b
one_name_twice robot root a b kept ha hb =
    let P : List Stem → Type 0 = λ stems. SharesName root robot.joints stems a in
    one_shared root robot.joints hb.stems a b (subst P (one_order robot ha.stems hb.stems kept ha.order hb.order) ha.shares) hb.shares

pub one_too_many : (robot : Robot) (root : UrdfJoint) (a b : ℕ) → IsRobot robot.links robot.joints → HasTooManyColumns robot root a → HasTooManyColumns robot root b → a ≡ b
one_too_many robot root a b kept ha hb =
    let P : List Stem → Type 0 = λ stems. PassColumns root robot.joints stems a in
    one_pass root robot.joints hb.stems a b (subst P (one_order robot ha.stems hb.stems kept ha.order hb.order) ha.pass) hb.pass
