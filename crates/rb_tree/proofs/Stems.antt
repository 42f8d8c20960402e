-- Parts of the order as lists.
use Rattle.std.proofs.Common.{◌≡◌, ◌<◌, ◌+◌, ◌-◌, ℕ, List, [], ◌∷◌, ◌++◌, Some, length, get_or, sym, ◌∙◌, ap, arith, inl, inr, length-append}
use Rattle.std.specs.Prelude.{slice_get, unwrap_or}
use Rattle.std.specs.List.{All, Any}
use Rattle.std.proofs.lemmas.Option.{slice_get-get_or, slice_get_cases, get_or_from_slice_get}
use Rattle.std.proofs.lemmas.List.{get_or-map, get_or_append_left}
use Rattle.std.proofs.Math.Seq.{get_or-append_seam}
use Rattle.rb_urdf.specs.declared.robot.UrdfJoint.{UrdfJoint}
use Rattle.rb_tree.specs.declared.order.Stem.{Stem}
use Rattle.rb_tree.specs.Order.{no_stem}
use Rattle.rb_tree.specs.Grow.{stem_at, parent_link, child_link, link_of, parent_of, joint_of, HasLink}
use Rattle.rb_tree.proofs.Placing.{Extends}

-- an item that is there is read the same with any other value in place of what is missing
pub read_same : {X : Type 0} → (xs : List X) (i : ℕ) (d e : X) → i < length xs → get_or xs i d ≡ get_or xs i e
read_same xs i d e h = get_or_from_slice_get xs i (get_or xs i e) d (slice_get-get_or xs i e h)

pub body_read : (stems : List Stem) (k : ℕ) (stem : Stem) → k < length stems → stem ≡ get_or stems k stem → stem_at stems k ≡ stem
body_read stems k stem h is = read_same stems k no_stem stem h ∙ sym is

pub up_read : (joints : List UrdfJoint) (j : ℕ) (joint : UrdfJoint) → j < length joints → joint ≡ get_or joints j joint → parent_link joints j ≡ joint.parent
unfolding parent_link
up_read joints j joint h is = get_or-map (λ x. x.parent) joints j joint 0 h ∙ ap (λ x. x.parent) (sym is)

pub down_read : (joints : List UrdfJoint) (j : ℕ) (joint : UrdfJoint) → j < length joints → joint ≡ get_or joints j joint → child_link joints j ≡ joint.child
unfolding child_link
down_read joints j joint h is = get_or-map (λ x. x.child) joints j joint 0 h ∙ ap (λ x. x.child) (sym is)

pub placed_from_any : (stems : List Stem) (link : ℕ) → Any (λ stem. stem.link ≡ link) stems → HasLink stems link
unfolding link_of
placed_from_any stems link h = record {
  number = h.0;
  within = h.2;
  is = ap (λ stem. stem.link) (body_read stems h.0 h.1 h.2 (sym h.3)) ∙ h.4;
}

pub any_from_placed : (stems : List Stem) (link : ℕ) → HasLink stems link → Any (λ stem. stem.link ≡ link) stems
unfolding link_of
any_from_placed stems link h = (h.number, stem_at stems h.number, h.within, read_same stems h.number (stem_at stems h.number) no_stem h.within, h.is)

-- one more stem
pub length_push : (stems : List Stem) (stem : Stem) → length (stems ++ stem ∷ []) ≡ length stems + 1
length_push stems stem = omega (arith, length-append stems (stem ∷ []))

pub body_kept : (stems : List Stem) (stem : Stem) (k : ℕ) → k < length stems → stem_at (stems ++ stem ∷ []) k ≡ stem_at stems k
body_kept stems stem k h = get_or_append_left stems (stem ∷ []) no_stem k h

pub body_last : (stems : List Stem) (stem : Stem) → stem_at (stems ++ stem ∷ []) (length stems) ≡ stem
body_last stems stem = get_or-append_seam stems stem [] no_stem

pub links_extend : (stems : List Stem) (stem : Stem) (v : ℕ) → stem.link ≡ v → Extends (length stems) (link_of stems) (link_of (stems ++ stem ∷ [])) v
unfolding link_of
links_extend stems stem v e = record {
  same = λ k h. ap (λ s. s.link) (body_kept stems stem k h);
  last = ap (λ s. s.link) (body_last stems stem) ∙ e;
}

pub parents_extend : (stems : List Stem) (stem : Stem) (v : ℕ) → stem.parent ≡ v + 1 →
    Extends (length stems) (parent_of stems) (parent_of (stems ++ stem ∷ [])) v
unfolding parent_of
parents_extend stems stem v e = record {
  same = λ k h. ap (λ s. s.parent - 1) (body_kept stems stem k h);
  last = let f : (stem_at (stems ++ stem ∷ []) (length stems)).parent ≡ stem.parent = ap (λ s. s.parent) (body_last stems stem) in omega arith;
}

pub joints_extend : (stems : List Stem) (stem : Stem) (v : ℕ) → stem.joint ≡ Some v → Extends (length stems) (joint_of stems) (joint_of (stems ++ stem ∷ [])) v
unfolding joint_of
joints_extend stems stem v e = record {
  same = λ k h. ap (λ s. unwrap_or s.joint 0) (body_kept stems stem k h);
  last = ap (λ s. unwrap_or s.joint 0) (body_last stems stem) ∙ ap (λ o. unwrap_or o 0) e;
}

-- a joint that is there, with its number
pub record JointAt (joints : List UrdfJoint) (number : ℕ) : Type 0 where
  pub joint : UrdfJoint
  pub is : slice_get joints number ≡ Some joint
  pub up_is : parent_link joints number ≡ joint.parent
  pub down_is : child_link joints number ≡ joint.child

pub joint_at : (joints : List UrdfJoint) (number : ℕ) → number < length joints → JointAt joints number
joint_at joints number h =
    elim ((slice_get_cases joints number).1) [
      | inl found ↦ record {
        joint = found.0;
        is = found.2;
        up_is = up_read joints number found.0 h (sym found.3);
        down_is = down_read joints number found.0 h (sym found.3);
      }
      | inr past ↦ absurd (let p = past.0 in omega arith)
    ]

pub down_below : (joints : List UrdfJoint) (links number : ℕ) → All (λ joint. joint.child < links) joints → number < length joints → child_link joints number < links
down_below joints links number all h =
    let j = joint_at joints number h in
    let b = all number j.joint h in
    omega (arith, j.down_is, ap (λ x. x.child) (get_or_from_slice_get joints number j.joint j.joint j.is), b)
