-- The bodies placed in the end are the order, or leave a link that is not reached.
use Rattle.std.proofs.Common.{◌≡◌, ◌≢◌, ◌<◌, ◌≤◌, ◌+◌, ℕ, zero, suc, List, Some, length, get_or, sym, ◌∙◌, ap, subst, refl, arith, add-one, inl, inr}
use Rattle.std.specs.Prelude.{unwrap_or}
use Rattle.std.proofs.Math.Nat.{eq-or-lt_of_le}
use Rattle.std.proofs.lemmas.Option.{slice_get_read}
use Rattle.rb_urdf.specs.declared.robot.UrdfJoint.{UrdfJoint}
use Rattle.rb_urdf.specs.declared.robot.UrdfLink.{UrdfLink}
use Rattle.rb_urdf.specs.Robot.{Robot}
use Rattle.rb_tree.specs.declared.order.Stem.{Stem}
use Rattle.rb_tree.specs.Order.{stem_of, climbed, Reaches, IsAtOrAbove, IsRoot, IsBorne, IsOrder, HasCycle}
use Rattle.rb_tree.specs.Roots.{IsChild, HaveOneParent, HasRootBelow}
use Rattle.rb_tree.specs.Grow.{stem_at, AreNumbered, link_of, parent_of, joint_of, HasLink, IsGrown, IsClosed, IsFirstApart}
use Rattle.rb_tree.proofs.Stems.{joint_at}
use Rattle.rb_tree.proofs.Growth.{grown_all}
use Rattle.rb_tree.proofs.Ways.{way_placed, body_reached}

-- the body at place k is at or below the body with number above, where all between have a parent at or below that
climbs : (stems : List Stem) → AreNumbered stems → ((k : ℕ) → 0 < k → k < length stems → parent_of stems k < k) → (most k above : ℕ) → k ≤ most → above ≤ k →
    k < length stems → ((i : ℕ) → above < i → i ≤ k → above ≤ parent_of stems i) → IsAtOrAbove stems (above + 1) (suc k)
climbs stems numbered earlier zero k above small low within nested = (0, omega arith)
climbs stems numbered earlier (suc most) k above small low within nested =
    elim (eq-or-lt_of_le low) [
      | inl e ↦ (0, omega arith)
      | inr lt ↦
          let before : parent_of stems k < k = earlier k (omega arith) within in
          let least : above ≤ parent_of stems k = nested k lt (omega arith) in
          let rest = climbs stems numbered earlier most (parent_of stems k) above (omega arith) least (omega arith) (λ i lo hi. nested i lo (omega arith)) in
          let next : (stem_at stems k).parent ≡ suc (parent_of stems k) = numbered.later k (omega arith) within ∙ add-one (parent_of stems k) in
          let P : ℕ → Type 0 = λ n. climbed stems rest.0 n ≡ above + 1 in
          (suc rest.0, subst P (sym next) rest.1)
    ]

-- a body with a number from 1
at_number : (stems : List Stem) (k : ℕ) → stem_of stems (k + 1) ≡ stem_at stems k
at_number stems k = ap (stem_of stems) (add-one k)

module _ (robot : Robot) (root : ℕ) (stems : List Stem) (grown : IsGrown robot.joints (length robot.links) root stems)
    (only : HasRootBelow robot.joints (length robot.links) root) where
  there_by : (number : ℕ) → 0 < number → number ≤ length stems → (stem_of stems number).link < length robot.links
  unfolding link_of
  there_by zero low high = absurd (omega arith)
  there_by (suc k) low high = grown.there k (omega arith)

  once_by : (a b : ℕ) → 0 < a → a < b → b ≤ length stems → (stem_of stems a).link ≢ (stem_of stems b).link
  unfolding link_of
  once_by zero b low ab high = absurd (omega arith)
  once_by (suc i) zero low ab high = absurd (omega arith)
  once_by (suc i) (suc k) low ab high = grown.part.once i k (omega arith) (omega arith)

  root_by : IsRoot robot.joints (stem_of stems 1)
  root_by =
      let Child : ℕ → Type 0 = λ link. IsChild robot.joints link in
      record {
        no_child = λ child. only.no_child (subst Child (ap (λ s. s.link) grown.root_is) child);
        no_joint = ap (λ s. s.joint) grown.root_is;
        world = ap (λ s. s.parent) grown.root_is;
      }

  borne_by : (number : ℕ) → 1 < number → number ≤ length stems → IsBorne robot.joints (stem_of stems number) (stem_of stems (stem_of stems number).parent)
  unfolding link_of
  borne_by zero low high = absurd (omega arith)
  borne_by (suc k) low high =
      let within : k < length stems = omega arith in
      let later : 0 < k = omega arith in
      let j = joint_at robot.joints (joint_of stems k) (grown.part.bearer k later within) in
      let above : stem_of stems (stem_at stems k).parent ≡ stem_at stems (parent_of stems k) =
      ap (stem_of stems) (grown.numbered.later k later within) ∙ at_number stems (parent_of stems k) in
      record {
        number = joint_of stems k;
        joint = j.joint;
        named = grown.named k later within;
        is = j.is;
        child = sym j.down_is ∙ grown.part.child k later within;
        parent_is = sym j.up_is ∙ grown.part.parent k later within ∙ ap (λ s. s.link) (sym above);
      }

  parent_by : (number : ℕ) → 1 < number → number ≤ length stems → (0 < (stem_of stems number).parent) × ((stem_of stems number).parent < number)
  parent_by zero low high = absurd (omega arith)
  parent_by (suc k) low high =
      let is = grown.numbered.later k (omega arith) (omega arith) in
      let before = grown.part.earlier k (omega arith) (omega arith) in
      (omega arith, omega arith)

  depth_by : (number : ℕ) → 0 < number → number < length stems → IsAtOrAbove stems (stem_of stems (number + 1)).parent number
  depth_by zero low high = absurd (omega arith)
  depth_by (suc k) low high =
      let next : suc k < length stems = omega arith in
      let before = grown.part.earlier (suc k) (omega arith) next in
      let is : (stem_of stems (suc k + 1)).parent ≡ parent_of stems (suc k) + 1 =
      ap (λ s. s.parent) (at_number stems (suc k)) ∙ grown.numbered.later (suc k) (omega arith) next in
      let P : ℕ → Type 0 = λ n. IsAtOrAbove stems n (suc k) in
      subst P (sym is) (climbs stems grown.numbered grown.part.earlier k k (parent_of stems (suc k)) (omega arith) (omega arith) (omega arith)
      (λ i lo hi. grown.part.nested i (suc k) next lo (omega arith)))

  file_by : (a b first second : ℕ) → 1 < a → a < b → b ≤ length stems → (stem_of stems a).parent ≡ (stem_of stems b).parent →
      (stem_of stems a).joint ≡ Some first → (stem_of stems b).joint ≡ Some second → first < second
  unfolding joint_of
  file_by zero b first second low ab high same fa fb = absurd (omega arith)
  file_by (suc i) zero first second low ab high same fa fb = absurd (omega arith)
  file_by (suc i) (suc k) first second low ab high same fa fb =
      let is_a = grown.numbered.later i (omega arith) (omega arith) in
      let is_b = grown.numbered.later k (omega arith) (omega arith) in
      let lt : unwrap_or (stem_at stems i).joint 0 < unwrap_or (stem_at stems k).joint 0 =
      grown.part.in_file_order i k (omega arith) (omega arith) (omega arith) (omega arith) in
      let ea : unwrap_or (stem_at stems i).joint 0 ≡ first = ap (λ o. unwrap_or o 0) fa in
      let eb : unwrap_or (stem_at stems k).joint 0 ≡ second = ap (λ o. unwrap_or o 0) fb in
      omega arith

  pub order_grown : HaveOneParent robot.joints → ((link : ℕ) → link < length robot.links → HasLink stems link) → IsOrder robot stems
  order_grown one_parent all = record {
    some = grown.part.some;
    count = grown_all robot.joints (length robot.links) root stems grown all;
    there = there_by;
    once = once_by;
    one_parent = one_parent;
    root = root_by;
    borne = borne_by;
    parent_before = parent_by;
    depth_first = depth_by;
    in_file_order = file_by;
  }

-- a link that is placed is reached
pub placed_reached : (joints : List UrdfJoint) (links root : ℕ) (stems : List Stem) → IsGrown joints links root stems → (link : ℕ) → HasLink stems link →
    Reaches joints root link
unfolding link_of
placed_reached joints links root stems grown link h =
    let From : ℕ → Type 0 = λ r. Reaches joints r link in
    let To : ℕ → Type 0 = λ l. Reaches joints (link_of stems 0) l in
    subst From (ap (λ s. s.link) grown.root_is) (subst To h.is (body_reached joints stems grown.part h.number h.number (omega arith) h.within))

root_placed : (joints : List UrdfJoint) (links root : ℕ) (stems : List Stem) → IsGrown joints links root stems → HasLink stems root
unfolding link_of
root_placed joints links root stems grown = record { number = 0; within = grown.part.some; is = ap (λ s. s.link) grown.root_is }

pub cycle_grown : (robot : Robot) (root : ℕ) (stems : List Stem) (apart : ℕ) (link : UrdfLink) (at : ℕ) → IsGrown robot.joints (length robot.links) root stems →
    IsClosed robot.joints stems → HasRootBelow robot.joints (length robot.links) root → IsFirstApart stems (length robot.links) apart →
    link ≡ get_or robot.links apart link → at ≡ link.place → HasCycle robot at
cycle_grown robot root stems apart link at grown closed only first is place = record {
  root = root;
  only = only;
  number = apart;
  is = record { link = link; is = slice_get_read robot.links (length robot.links) apart link refl first.within is; place = place };
  apart = λ reached. first.free (way_placed robot.joints stems closed reached.0 root apart (root_placed robot.joints (length robot.links) root stems grown) reached.1);
  first = λ l low. placed_reached robot.joints (length robot.links) root stems grown l (first.first l low);
}
