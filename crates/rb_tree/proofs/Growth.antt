-- How the bodies placed so far grow by one stem.
use Rattle.std.proofs.Common.{◌≡◌, ◌<◌, ◌≤◌, ℕ, List, [], ◌∷◌, ◌++◌, Some, None, length, sym, ◌∙◌, ap, subst, refl, arith, inl, inr}
use Rattle.std.specs.Prelude.{unwrap_or}
use Rattle.std.specs.List.{All}
use Rattle.rb_urdf.specs.declared.robot.UrdfJoint.{UrdfJoint}
use Rattle.rb_tree.specs.declared.order.Stem.{Stem}
use Rattle.rb_tree.specs.Grow.{stem_at, AreNumbered, parent_link, child_link, link_of, parent_of, joint_of, HasLink, IsPart, IsGrown, IsNextStem}
use Rattle.rb_tree.proofs.Placing.{part_of_one, part_more}
use Rattle.rb_tree.proofs.Answered.{below_or_last}
use Rattle.rb_tree.proofs.Stems.{length_push, body_kept, body_last, links_extend, parents_extend, joints_extend, down_below}
use Rattle.rb_tree.proofs.Pigeons.{fits, covers}

-- the root alone
pub grown_first : (joints : List UrdfJoint) (links root : ℕ) → root < links → IsGrown joints links root (record { link = root; joint = None; parent = 0 } ∷ [])
unfolding link_of
grown_first joints links root within =
    let stems : List Stem = record { link = root; joint = None; parent = 0 } ∷ [] in
    record {
      part = part_of_one (length joints) (parent_link joints) (child_link joints) (link_of stems) (parent_of stems) (joint_of stems);
      root_is = refl;
      numbered = record { root = refl; later = λ k low high. absurd (omega arith) };
      named = λ k low high. absurd (omega arith);
      there = λ k high. let e : k ≡ 0 = omega arith in let P : ℕ → Type 0 = λ i. link_of stems i < links in subst P (sym e) within;
    }

-- the name of a joint is known by its number
named_by : (stem : Stem) (v : ℕ) → stem.joint ≡ Some v → stem.joint ≡ Some (unwrap_or stem.joint 0)
named_by stem v e = e ∙ ap Some (sym (ap (λ o. unwrap_or o 0) e))

module _ (joints : List UrdfJoint) (links root : ℕ) (stems : List Stem) (stem : Stem) (grown : IsGrown joints links root stems)
    (next : IsNextStem joints stems stem) (children : All (λ joint. joint.child < links) joints) where
  more : List Stem
  more = stems ++ stem ∷ []

  more_part : IsPart (length joints) (parent_link joints) (child_link joints) (length more) (link_of more) (parent_of more) (joint_of more)
  unfolding more
  more_part =
      let P : ℕ → Type 0 = λ n. IsPart (length joints) (parent_link joints) (child_link joints) n (link_of more) (parent_of more) (joint_of more) in
      subst P (sym (length_push stems stem))
      (part_more (length joints) (parent_link joints) (child_link joints) (length stems) (link_of stems) (parent_of stems) (joint_of stems)
      (link_of more) (parent_of more) (joint_of more) next.place next.number grown.part next.next
      (links_extend stems stem (child_link joints next.number) next.link_is) (parents_extend stems stem next.place next.parent_is)
      (joints_extend stems stem next.number next.named))

  more_numbered : AreNumbered more
  unfolding more
  more_numbered = record {
    root = ap (λ s. s.parent) (body_kept stems stem 0 grown.part.some) ∙ grown.numbered.root;
    later = λ k low high.
        let extends = parents_extend stems stem next.place next.parent_is in
        elim (below_or_last k (length stems) (omega (arith, length_push stems stem))) [
          | inl lt ↦ omega (arith, ap (λ s. s.parent) (body_kept stems stem k lt), grown.numbered.later k low lt, extends.same k lt)
          | inr e ↦
              omega (arith, ap (λ i. (stem_at more i).parent) e, ap (λ s. s.parent) (body_last stems stem), next.parent_is, ap (parent_of more) e, extends.last)
        ];
  }

  more_named : (k : ℕ) → 0 < k → k < length more → (stem_at more k).joint ≡ Some (joint_of more k)
  unfolding more joint_of
  more_named k low high =
      elim (below_or_last k (length stems) (omega (arith, length_push stems stem))) [
        | inl lt ↦ named_by (stem_at more k) (joint_of stems k) (ap (λ s. s.joint) (body_kept stems stem k lt) ∙ grown.named k low lt)
        | inr e ↦ named_by (stem_at more k) next.number (ap (λ i. (stem_at more i).joint) e ∙ ap (λ s. s.joint) (body_last stems stem) ∙ next.named)
      ]

  more_there : (k : ℕ) → k < length more → link_of more k < links
  unfolding more
  more_there k high =
      let extends = links_extend stems stem (child_link joints next.number) next.link_is in
      elim (below_or_last k (length stems) (omega (arith, length_push stems stem))) [
        | inl lt ↦ omega (arith, extends.same k lt, grown.there k lt)
        | inr e ↦ omega (arith, ap (link_of more) e, extends.last, down_below joints links next.number children next.next.free.within)
      ]

  pub grown_more : IsGrown joints links root (stems ++ stem ∷ [])
  unfolding more
  grown_more = record {
    part = more_part;
    root_is = body_kept stems stem 0 grown.part.some ∙ grown.root_is;
    numbered = more_numbered;
    named = more_named;
    there = more_there;
  }

-- the bodies are at most as many as the links
pub grown_fits : (joints : List UrdfJoint) (links root : ℕ) (stems : List Stem) → IsGrown joints links root stems → length stems ≤ links
grown_fits joints links root stems grown = fits (length stems) links (link_of stems) grown.there grown.part.once

-- and as many, where each link is placed
pub grown_all : (joints : List UrdfJoint) (links root : ℕ) (stems : List Stem) → IsGrown joints links root stems →
    ((link : ℕ) → link < links → HasLink stems link) → length stems ≡ links
grown_all joints links root stems grown all =
    omega (arith, grown_fits joints links root stems grown, covers links (length stems) (link_of stems) all)
