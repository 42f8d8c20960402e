use Rattle.std.proofs.Common.{◌≡◌, ◌+◌, ◌-◌, ℕ, List, length, refl, sym, ◌∙◌, ap, arith, inl, inr, subst}
use Rattle.std.proofs.Math.Nat.{eq-zero-or-pos}
use Rattle.rb_urdf.specs.declared.robot.UrdfJoint.{UrdfJoint}
use Rattle.rb_tree.specs.declared.order.Stem.{Stem}
use Rattle.rb_tree.specs.Grow.{stem_at, parent_link, child_link, link_of, parent_of, joint_of, IsPartOf, AreNumbered, IsFullLink}
use Rattle.rb_tree.proofs.Placing.{IsAbove, above_root, above_parent}
use Rattle.rb_tree.proofs.Stems.{down_read}
use Rattle.rb_tree.proofs.grow.next_stem.Goals as goal

pub returns-in-Some : goal.returns-in-Some
unfolding link_of
returns-in-Some c =
    let above = c.loop-body.invariant in
    record {
      number = c.in-Some.number;
      place = c.loop-body.body - 1;
      named = refl;
      link_is = ap (λ x. x.child) (sym c.index-joints-number.is)
          ∙ sym (down_read c.args.joints.now c.in-Some.number c.index-joints-number.result c.in-Some.ensures.within c.index-joints-number.is);
      parent_is = omega arith;
      next = record {
        within = omega arith;
        free = c.in-Some.ensures;
        behind = λ k low high. let b = above.behind k (omega arith) high in omega arith;
        full = λ k low high. above.full k (omega arith) high;
      };
    }

above_next : (joints : List UrdfJoint) (stems : List Stem) (body place : ℕ) → IsPartOf joints stems → AreNumbered stems → body ≡ place + 1 →
    IsAbove (length joints) (parent_link joints) (child_link joints) (length stems) (link_of stems) (parent_of stems) body → IsFullLink joints stems (link_of stems place) →
    IsAbove (length joints) (parent_link joints) (child_link joints) (length stems) (link_of stems) (parent_of stems) (stem_at stems place).parent
above_next joints stems body place part numbered e above full =
    let P : ℕ → Type 0 = λ n. IsAbove (length joints) (parent_link joints) (child_link joints) (length stems) (link_of stems) (parent_of stems) n in
    let here = subst P e above in
    let w = here.within in
    elim (eq-zero-or-pos place) [
      | inl root ↦ above_root (length joints) (parent_link joints) (child_link joints) (length stems) (link_of stems) (parent_of stems) place (stem_at stems place).parent
          here full root (ap (λ i. (stem_at stems i).parent) root ∙ numbered.root)
      | inr later ↦ above_parent (length joints) (parent_link joints) (child_link joints) (length stems) (link_of stems) (parent_of stems) (joint_of stems) place
          (stem_at stems place).parent part here full later (numbered.later place later (omega arith))
    ]

pub loop-body-preserved : goal.loop-body-preserved
unfolding link_of
loop-body-preserved c =
    above_next c.args.joints.now c.args.stems.now c.loop-body.body (c.loop-body.body - 1) c.requires.part c.requires.numbered (omega arith)
    c.loop-body.invariant c.in_default.ensures
