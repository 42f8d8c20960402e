-- An order is a part that has grown to the whole.
use Rattle.std.proofs.Common.{◌≡◌, ◌≢◌, ◌<◌, ◌≤◌, ◌+◌, ℕ, zero, suc, List, Some, None, length, get_or, sym, ◌∙◌, ap, subst, refl, arith, add-one, inl, inr}
use Rattle.std.specs.Prelude.{unwrap_or}
use Rattle.std.specs.List.{All}
use Rattle.std.proofs.Math.Nat.{eq-zero-or-pos}
use Rattle.std.proofs.lemmas.Bool.{cases_order}
use Rattle.std.proofs.lemmas.Option.{get_or_from_slice_get, slice_get_within}
use Rattle.rb_urdf.specs.declared.robot.UrdfJoint.{UrdfJoint}
use Rattle.rb_urdf.specs.Robot.{Robot}
use Rattle.rb_tree.specs.declared.order.Stem.{Stem}
use Rattle.rb_tree.specs.Order.{stem_of, climbed, IsBorne, IsOrder}
use Rattle.rb_tree.specs.Grow.{stem_at, parent_link, child_link, link_of, parent_of, joint_of, HasLink, IsPartOf, IsGrown, IsClosed}
use Rattle.rb_tree.proofs.Stems.{up_read, down_read, down_below}
use Rattle.rb_tree.proofs.Pigeons.{each_placed}

-- the world is above nothing
climbed_world : (stems : List Stem) (steps : ℕ) → climbed stems steps 0 ≡ 0
climbed_world stems zero = refl
climbed_world stems (suc steps) = climbed_world stems steps

-- of the joint that bears a stem
record Bearer (joints : List UrdfJoint) (stem parent : Stem) : Type 0 where
  pub within : unwrap_or stem.joint 0 < length joints
  pub named : stem.joint ≡ Some (unwrap_or stem.joint 0)
  pub child : child_link joints (unwrap_or stem.joint 0) ≡ stem.link
  pub parent_is : parent_link joints (unwrap_or stem.joint 0) ≡ parent.link

bearer : (joints : List UrdfJoint) (stem parent : Stem) → IsBorne joints stem parent → Bearer joints stem parent
bearer joints stem parent b =
    let e : unwrap_or stem.joint 0 ≡ b.number = ap (λ o. unwrap_or o 0) b.named in
    let within : b.number < length joints = slice_get_within joints b.number b.joint b.is in
    let is : b.joint ≡ get_or joints b.number b.joint = sym (get_or_from_slice_get joints b.number b.joint b.joint b.is) in
    record {
      within = omega arith;
      named = b.named ∙ ap Some (sym e);
      child = ap (child_link joints) e ∙ down_read joints b.number b.joint within is ∙ b.child;
      parent_is = ap (parent_link joints) e ∙ up_read joints b.number b.joint within is ∙ b.parent_is;
    }

module _ (robot : Robot) (stems : List Stem) (children : All (λ joint. joint.child < length robot.links) robot.joints) (order : IsOrder robot stems) where
  later : (k : ℕ) → 0 < k → k < length stems → (stem_at stems k).parent ≡ parent_of stems k + 1
  unfolding parent_of
  later k low within =
      let b : (0 < (stem_of stems (suc k)).parent) × ((stem_of stems (suc k)).parent < suc k) = order.parent_before (suc k) (omega arith) (omega arith) in
      let b0 : 0 < (stem_at stems k).parent = b.0 in
      omega arith

  earlier : (k : ℕ) → 0 < k → k < length stems → parent_of stems k < k
  earlier k low within =
      let b : (0 < (stem_of stems (suc k)).parent) × ((stem_of stems (suc k)).parent < suc k) = order.parent_before (suc k) (omega arith) (omega arith) in
      let b1 : (stem_at stems k).parent < suc k = b.1 in
      omega (arith, later k low within)

  above_is : (k : ℕ) → 0 < k → k < length stems → stem_of stems (stem_at stems k).parent ≡ stem_at stems (parent_of stems k)
  above_is k low within = ap (stem_of stems) (later k low within ∙ add-one (parent_of stems k))

  borne : (k : ℕ) → 0 < k → k < length stems → Bearer robot.joints (stem_at stems k) (stem_at stems (parent_of stems k))
  borne k low within =
      let P : Stem → Type 0 = λ s. IsBorne robot.joints (stem_at stems k) s in
      bearer robot.joints (stem_at stems k) (stem_at stems (parent_of stems k)) (subst P (above_is k low within) (order.borne (suc k) (omega arith) (omega arith)))

  -- no climbing leads behind
  climbs_down : (steps b above : ℕ) → b < length stems → climbed stems steps (suc b) ≡ above + 1 → above ≤ b
  climbs_down zero b above within h = omega arith
  climbs_down (suc steps) b above within h =
      elim (eq-zero-or-pos b) [
        | inl root ↦
            let e : (stem_at stems b).parent ≡ 0 = ap (λ i. (stem_at stems i).parent) root ∙ order.root.world in
            let w : climbed stems steps 0 ≡ above + 1 = ap (climbed stems steps) (sym e) ∙ h in
            absurd (omega (arith, w, climbed_world stems steps))
        | inr low ↦
            let e : (stem_at stems b).parent ≡ suc (parent_of stems b) = later b low within ∙ add-one (parent_of stems b) in
            let less = earlier b low within in
            let least = climbs_down steps (parent_of stems b) above (omega arith) (ap (climbed stems steps) (sym e) ∙ h) in
            omega arith
      ]

  -- what stands behind the end of a way up, and not behind its start, has no parent before that end
  on_way : (i : ℕ) → i ≤ length stems → ((a k : ℕ) → a < i → parent_of stems a < k → k < a → parent_of stems a ≤ parent_of stems k) →
      (steps a above k : ℕ) → a < i → climbed stems steps (suc a) ≡ above + 1 → above < k → k ≤ a → above ≤ parent_of stems k
  on_way i fits nested zero a above k within h low high = absurd (omega arith)
  on_way i fits nested (suc steps) a above k within h low high =
      let pos : 0 < a = omega arith in
      let inside : a < length stems = omega arith in
      let e : (stem_at stems a).parent ≡ suc (parent_of stems a) = later a pos inside ∙ add-one (parent_of stems a) in
      let next : climbed stems steps (suc (parent_of stems a)) ≡ above + 1 = ap (climbed stems steps) (sym e) ∙ h in
      let less = earlier a pos inside in
      let least : above ≤ parent_of stems a = climbs_down steps (parent_of stems a) above (omega arith) next in
      elim (cases_order k a) [
        | inl same ↦ omega (arith, ap (parent_of stems) same)
        | inr o ↦ elim o [
          | inl lt ↦ elim (cases_order (parent_of stems a) k) [
            | inl end ↦ on_way i fits nested steps (parent_of stems a) above k (omega arith) next low (omega arith)
            | inr side ↦ elim side [
              | inl between ↦ omega (arith, nested a k within between lt)
              | inr under ↦ on_way i fits nested steps (parent_of stems a) above k (omega arith) next low (omega arith)
            ]
          ]
          | inr gt ↦ absurd (omega arith)
        ]
      ]

  nested_by : (most i k : ℕ) → i ≤ most → i < length stems → parent_of stems i < k → k < i → parent_of stems i ≤ parent_of stems k
  nested_by zero i k small within low high = absurd (omega arith)
  nested_by (suc most) zero k small within low high = absurd (omega arith)
  nested_by (suc most) (suc a) k small within low high =
      let way = order.depth_first (suc a) (omega arith) within in
      let up_is : (stem_of stems (suc a + 1)).parent ≡ parent_of stems (suc a) + 1 =
      ap (λ n. (stem_of stems n).parent) (add-one (suc a)) ∙ later (suc a) (omega arith) within in
      on_way (suc a) (omega arith) (λ b j less lo hi. nested_by most b j (omega arith) (omega arith) lo hi)
      way.0 a (parent_of stems (suc a)) k (omega arith) (way.1 ∙ up_is) low (omega arith)

  once_at : (a b : ℕ) → a < b → b < length stems → link_of stems a ≢ link_of stems b
  unfolding link_of
  once_at a b ab within = order.once (suc a) (suc b) (omega arith) (omega arith) (omega arith)

  there_at : (k : ℕ) → k < length stems → link_of stems k < length robot.links
  unfolding link_of
  there_at k within = order.there (suc k) (omega arith) (omega arith)

  pub all_placed : (link : ℕ) → link < length robot.links → HasLink stems link
  all_placed link within = each_placed (length stems) (length robot.links) (link_of stems) order.count there_at once_at link within

  child_placed : (j : ℕ) → j < length robot.joints → HasLink stems (child_link robot.joints j)
  child_placed j within = all_placed (child_link robot.joints j) (down_below robot.joints (length robot.links) j children within)

  pub closed : IsClosed robot.joints stems
  closed k within j high starts = child_placed j high

  file_at : (a b : ℕ) → 0 < a → a < b → b < length stems → parent_of stems a ≡ parent_of stems b → joint_of stems a < joint_of stems b
  unfolding joint_of
  file_at a b low ab within same =
      let am : a < length stems = omega arith in
      let parents : (stem_at stems a).parent ≡ (stem_at stems b).parent = omega (arith, later a low am, later b (omega arith) within, same) in
      order.in_file_order (suc a) (suc b) (unwrap_or (stem_at stems a).joint 0) (unwrap_or (stem_at stems b).joint 0) (omega arith) (omega arith) (omega arith)
      parents (borne a low am).named (borne b (omega arith) within).named

  whole_part : IsPartOf robot.joints stems
  unfolding link_of joint_of
  whole_part = record {
    some = order.some;
    once = once_at;
    earlier = earlier;
    bearer = λ k low within. (borne k low within).within;
    child = λ k low within. (borne k low within).child;
    parent = λ k low within. (borne k low within).parent_is;
    nested = λ k i within low high. nested_by i i k (omega arith) within low high;
    first = λ k j low within less same. child_placed j (let b = (borne k low within).within in omega arith);
    in_file_order = file_at;
    full = λ k i ki within low j high starts. child_placed j high;
  }

  root_stem : stem_at stems 0 ≡ record { link = (stem_of stems 1).link; joint = None; parent = 0 }
  root_stem =
      ap (λ o. let s : Stem = record { link = (stem_at stems 0).link; joint = o; parent = (stem_at stems 0).parent } in s) order.root.no_joint
      ∙ ap (λ p. let s : Stem = record { link = (stem_at stems 0).link; joint = None; parent = p } in s) order.root.world

  pub grown_order : IsGrown robot.joints (length robot.links) (stem_of stems 1).link stems
  unfolding joint_of
  grown_order = record {
    part = whole_part;
    root_is = root_stem;
    numbered = record { root = order.root.world; later = later };
    named = λ k low within. (borne k low within).named;
    there = there_at;
  }
