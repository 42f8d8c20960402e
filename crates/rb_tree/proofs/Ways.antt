-- Ways of joints from the root.
use Rattle.std.proofs.Common.{◌≡◌, ◌<◌, ◌≤◌, ℕ, zero, suc, List, [], ◌∷◌, ◌++◌, length, sym, ◌∙◌, ap, subst, refl, arith, inl, inr}
use Rattle.std.specs.List.{Contains}
use Rattle.std.proofs.Math.Nat.{eq-zero-or-pos}
use Rattle.std.proofs.lemmas.Option.{get_or_from_slice_get, slice_get_within}
use Rattle.rb_urdf.specs.declared.robot.UrdfJoint.{UrdfJoint}
use Rattle.rb_tree.specs.declared.order.Stem.{Stem}
use Rattle.rb_tree.specs.Order.{Leads, Reaches}
use Rattle.rb_tree.specs.Grow.{parent_link, link_of, parent_of, joint_of, HasLink, IsClosed, IsPartOf}
use Rattle.rb_tree.proofs.Stems.{JointAt, joint_at, up_read, down_read}

-- from a link that is placed each way leads to one that is placed
pub way_placed : (joints : List UrdfJoint) (stems : List Stem) → IsClosed joints stems → (way : List UrdfJoint) (from to : ℕ) →
    HasLink stems from → Leads joints from way to → HasLink stems to
way_placed joints stems closed [] from to h leads = let P : ℕ → Type 0 = λ link. HasLink stems link in subst P leads h
way_placed joints stems closed (joint ∷ way) from to h leads =
    let P : ℕ → Type 0 = λ link. HasLink stems link in
    let j = leads.0.0 in
    let within = leads.0.1 in
    let is = sym leads.0.2 in
    let starts : parent_link joints j ≡ link_of stems h.number = up_read joints j joint within is ∙ leads.1 ∙ sym h.is in
    let child : HasLink stems joint.child = subst P (down_read joints j joint within is) (closed h.number h.within j within starts) in
    way_placed joints stems closed way joint.child to child leads.2

-- one joint more at the end
way_more : (joints : List UrdfJoint) (joint : UrdfJoint) → Contains joints joint → (way : List UrdfJoint) (from to : ℕ) →
    Leads joints from way to → joint.parent ≡ to → Leads joints from (way ++ joint ∷ []) joint.child
way_more joints joint has [] from to leads e = (has, e ∙ sym leads, refl)
way_more joints joint has (first ∷ way) from to leads e = (leads.0, leads.1, way_more joints joint has way first.child to leads.2 e)

pub contains_at : (joints : List UrdfJoint) (number : ℕ) (j : JointAt joints number) → Contains joints j.joint
contains_at joints number j =
    (number, slice_get_within joints number j.joint j.is, get_or_from_slice_get joints number j.joint j.joint j.is)

-- each body is reached from the first
pub body_reached : (joints : List UrdfJoint) (stems : List Stem) → IsPartOf joints stems → (steps k : ℕ) → k ≤ steps → k < length stems →
    Reaches joints (link_of stems 0) (link_of stems k)
body_reached joints stems part zero k small within = let e : 0 ≡ k = omega arith in ([], ap (link_of stems) e)
body_reached joints stems part (suc steps) k small within =
    elim (eq-zero-or-pos k) [
      | inl e ↦ ([], ap (link_of stems) (sym e))
      | inr low ↦
          let before = part.earlier k low within in
          let above = body_reached joints stems part steps (parent_of stems k) (omega arith) (omega arith) in
          let j = joint_at joints (joint_of stems k) (part.bearer k low within) in
          let starts : j.joint.parent ≡ link_of stems (parent_of stems k) = sym j.up_is ∙ part.parent k low within in
          let ends : j.joint.child ≡ link_of stems k = sym j.down_is ∙ part.child k low within in
          let P : ℕ → Type 0 = λ link. Leads joints (link_of stems 0) (above.0 ++ j.joint ∷ []) link in (
            above.0 ++ j.joint ∷ [],
            subst P ends (way_more joints j.joint (contains_at joints (joint_of stems k) j) above.0 (link_of stems 0) (link_of stems (parent_of stems k)) above.1 starts),
          )
    ]
