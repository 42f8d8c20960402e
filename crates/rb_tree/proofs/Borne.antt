-- Each joint of a robot with an order bears one of its bodies, and no other.
use Rattle.std.proofs.Common.{◌≡◌, ◌≢◌, ◌<◌, ◌≤◌, ℕ, zero, suc, List, length, get_or, Option, None, Some, inl, inr, refl, sym, ◌∙◌, ap, subst, arith}
use Rattle.std.specs.Prelude.{slice_get, IfSome}
use Rattle.std.specs.List.{All}
use Rattle.std.proofs.lemmas.Bool.{cases_order}
use Rattle.std.proofs.lemmas.Option.{get_or_from_slice_get, slice_get_within, same_Some}
use Rattle.std.proofs.lemmas.List.Elements.{All-from_recursion}
use Rattle.rb_urdf.specs.declared.robot.UrdfKind.{UrdfKind}
use Rattle.rb_urdf.specs.declared.robot.UrdfJoint.{UrdfJoint}
use Rattle.rb_urdf.specs.declared.robot.UrdfMimic.{UrdfMimic}
use Rattle.rb_urdf.specs.Robot.{Robot, IsRobot, IsJointKept, FollowsWell}
use Rattle.rb_tree.specs.declared.order.Stem.{Stem}
use Rattle.rb_tree.specs.declared.robot.Mimic.{Mimic}
use Rattle.rb_tree.specs.Sizes.{bearer_of}
use Rattle.rb_tree.specs.Roots.{HaveOneParent}
use Rattle.rb_tree.specs.Order.{no_stem, stem_of, IsOrder}
use Rattle.rb_tree.specs.Grow.{stem_at, link_of}
use Rattle.rb_tree.specs.Build.{IsFollowing, Follows, BearsBody}
use Rattle.rb_tree.proofs.FromOrder.{all_placed}
use Rattle.rb_tree.proofs.ListLaws.{All-at, same_item}
use Rattle.rb_tree.proofs.Stems.{read_same}

pub none_bears : (order : List Stem) (number : ℕ) → All (λ (stem : Stem). stem.joint ≢ Some number) order → BearsBody order number → ⊥
none_bears order number none (k, stem, within, is, bears) = none k stem within (ap (λ (s : Stem). s.joint) is ∙ bears)

-- joints with one child are one
one_bearer : (joints : List UrdfJoint) → HaveOneParent joints → (i j : ℕ) (a b : UrdfJoint) → slice_get joints i ≡ Some a → slice_get joints j ≡ Some b → a.child ≡ b.child → i ≡ j
one_bearer joints one i j a b p q same =
    let read_a = get_or_from_slice_get joints i a a p in
    let read_b = get_or_from_slice_get joints j b a q in
    let e : (get_or joints i a).child ≡ (get_or joints j a).child = ap (λ (x : UrdfJoint). x.child) read_a ∙ (same ∙ sym (ap (λ (x : UrdfJoint). x.child) read_b)) in
    elim (cases_order i j) [
      | inl is ↦ is
      | inr o ↦ elim o [
        | inl less ↦ absurd (one i j a less (slice_get_within joints j b q) e)
        | inr more ↦ absurd (one j i a more (slice_get_within joints i a p) (sym e))
      ]
    ]

module _ (robot : Robot) (order : List Stem) (o : IsOrder robot order) where
  -- ---- a joint that is there bears a body
  children : IsRobot robot.links robot.joints → All (λ joint. joint.child < length robot.links) robot.joints
  children file =
      let all : All (IsJointKept robot.links robot.joints) robot.joints = All-from_recursion (IsJointKept robot.links robot.joints) robot.joints file.fits in
      λ k d within. (all k d within).child

  bears_at : (number : ℕ) (joint : UrdfJoint) (k : ℕ) → slice_get robot.joints number ≡ Some joint → k < length order → link_of order k ≡ joint.child → BearsBody order number
  unfolding link_of
  bears_at number joint zero is within link =
      absurd (o.root.no_child (number, joint, slice_get_within robot.joints number joint is, get_or_from_slice_get robot.joints number joint joint is, sym link))
  bears_at number joint (suc k) is within link =
      let b = o.borne (suc (suc k)) (omega arith) (omega arith) in
      let same = one_bearer robot.joints o.one_parent b.number number b.joint joint b.is is (b.child ∙ link) in
      (suc k, stem_at order (suc k), within, read_same order (suc k) (stem_at order (suc k)) no_stem within, b.named ∙ ap Some same)

  pub bears_body : IsRobot robot.links robot.joints → (number : ℕ) (joint : UrdfJoint) → slice_get robot.joints number ≡ Some joint → BearsBody order number
  bears_body file number joint is =
      let child = (All-at (IsJointKept robot.links robot.joints) robot.joints number joint file.fits is).child in
      let h = all_placed robot order (children file) o joint.child child in
      bears_at number joint h.number is h.within h.is

  -- ---- and no other
  bearer_there : (i number : ℕ) → 1 ≤ i → i ≤ length order → (stem_of order i).joint ≡ Some number → (joint : UrdfJoint) × (slice_get robot.joints number ≡ Some joint) × (joint.child ≡ (stem_of order i).link)
  bearer_there zero number from to bears = absurd (omega arith)
  bearer_there (suc zero) number from to bears = absurd (let none = o.root.no_joint in let e = sym none ∙ bears in cc)
  bearer_there (suc (suc k)) number from to bears =
      let b = o.borne (suc (suc k)) (omega arith) to in
      let same : b.number ≡ number = same_Some b.number number (sym b.named ∙ bears) in
      (b.joint, ap (slice_get robot.joints) (sym same) ∙ b.is, b.child)

  pub one_borne : (i j number : ℕ) → 1 ≤ i → i ≤ length order → 1 ≤ j → j ≤ length order → (stem_of order i).joint ≡ Some number → (stem_of order j).joint ≡ Some number → i ≡ j
  one_borne i j number from_i to_i from_j to_j p q =
      let a = bearer_there i number from_i to_i p in
      let b = bearer_there j number from_j to_j q in
      let same = same_item robot.joints number number a.0 b.0 refl a.1 b.1 in
      let links : (stem_of order i).link ≡ (stem_of order j).link = sym a.2 ∙ (ap (λ (x : UrdfJoint). x.child) same ∙ b.2) in
      elim (cases_order i j) [
        | inl is ↦ is
        | inr apart ↦ elim apart [
          | inl less ↦ absurd (o.once i j from_i less to_j links)
          | inr more ↦ absurd (o.once j i from_j more to_i (sym links))
        ]
      ]

  -- ---- what a body follows
  one_following : (followed : UrdfMimic) (a b : Mimic) → IsFollowing order followed a → IsFollowing order followed b → a ≡ b
  one_following followed a b p q =
      let master = one_borne a.master b.master followed.master p.from p.to q.from q.to p.bears q.bears in
      let multiplier = p.multiplier ∙ sym q.multiplier in
      let offset = p.offset ∙ sym q.offset in
      λ i. record { master = master i; multiplier = multiplier i; offset = offset i }

  pub one_mimic : (followed : Option UrdfMimic) (a b : Option Mimic) → Follows order followed a → Follows order followed b → a ≡ b
  one_mimic None None None p q = refl
  one_mimic None None (Some y) p q = absurd q
  one_mimic None (Some x) b p q = absurd p
  one_mimic (Some f) None b p q = absurd p
  one_mimic (Some f) (Some x) None p q = absurd q
  one_mimic (Some f) (Some x) (Some y) p q = ap Some (one_following f x y p q)

-- ---- what a joint of the file follows
root_well : (joints : List UrdfJoint) (kind : UrdfKind) (m : Option UrdfMimic) → m ≡ None → FollowsWell joints kind m
root_well joints kind None e = tt
root_well joints kind (Some x) e = absurd cc

-- the joint that bears a body follows well, where the root's follows none
pub bearer_well : (robot : Robot) (root : UrdfJoint) → IsRobot robot.links robot.joints → root.mimic ≡ None → (o : Option ℕ) (joint : UrdfJoint) →
    bearer_of root robot.joints o ≡ Some joint → FollowsWell robot.joints joint.kind joint.mimic
bearer_well robot root file leads None joint e =
    let P : UrdfJoint → Type 0 = λ j. FollowsWell robot.joints j.kind j.mimic in
    subst P (same_Some root joint e) (root_well robot.joints root.kind root.mimic leads)
bearer_well robot root file leads (Some number) joint e = (All-at (IsJointKept robot.links robot.joints) robot.joints number joint file.fits e).follows

followed_by : (robot : Robot) (order : List Stem) → IsOrder robot order → IsRobot robot.links robot.joints → (kind : UrdfKind) (m : Option UrdfMimic) → FollowsWell robot.joints kind m →
    IfSome m (λ (mimic : UrdfMimic). BearsBody order mimic.master)
followed_by robot order o file kind None well = tt
followed_by robot order o file kind (Some mimic) well = bears_body robot order o file mimic.master well.1.joint well.1.is

-- the joint that it follows bears a body
pub followed_there : (robot : Robot) (root : UrdfJoint) (order : List Stem) → IsOrder robot order → IsRobot robot.links robot.joints → root.mimic ≡ None → (stem : Stem) (joint : UrdfJoint) →
    bearer_of root robot.joints stem.joint ≡ Some joint → IfSome joint.mimic (λ (mimic : UrdfMimic). BearsBody order mimic.master)
followed_there robot root order o file leads stem joint bears = followed_by robot order o file joint.kind joint.mimic (bearer_well robot root file leads stem.joint joint bears)
