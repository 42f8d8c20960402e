-- How joints are settled one by one.
use Rattle.std.proofs.Common.{◌≡◌, ℕ, ◌+◌, ◌<◌, ◌≤◌, ◌⊎◌, inr, List, [], ◌∷◌, ◌++◌, length, map, drop, get_or, Result, Ok, Err, refl, sym, ap, ◌∙◌}
use Rattle.std.proofs.lemmas.List.{at_drop_more, at_drop_all}
use Rattle.rb_urdf.specs.declared.robot.UrdfJoint.{UrdfJoint}
use Rattle.rb_urdf.specs.declared.faults.UrdfFault.{UrdfFault}
use Rattle.rb_urdf.specs.declared.faults.UrdfFaultKind.{UrdfFaultKind}
use Rattle.rb_urdf.specs.declared.joint.Draft.{Draft}
use Rattle.rb_urdf.specs.declared.mimic.Head.{Head}
use Rattle.rb_urdf.specs.Faults.{no_memory, placed_kind}
use Rattle.rb_urdf.specs.Joints.{names_of_drafts}
use Rattle.rb_urdf.specs.Mimics.{head_of, joint_of, joints_after, joints_of}
use Rattle.rb_result.proofs.Placing.{step_fails, fails_along}
use Rattle.rb_urdf.proofs.Placed.{is_placing}

module _ (names : List (List ℕ)) (heads : List Head) (whole : Result (List UrdfJoint) UrdfFault) (joints : List UrdfJoint) (drafts : List Draft) (n : ℕ) where
  next_joint : Draft → List Draft → Result (List UrdfJoint) UrdfFault
  next_joint draft rest = joints_after names heads joints (draft ∷ rest)

  at_draft : (draft : Draft) → n < length drafts → draft ≡ get_or drafts n draft → joints_after names heads joints (drop n drafts) ≡ next_joint draft (drop (n + 1) drafts)
  unfolding next_joint
  at_draft draft within is =
      at_drop_more (joints_after names heads joints) drafts n draft within
      ∙ ap (λ d. joints_after names heads joints (d ∷ drop (n + 1) drafts)) (sym is)

  pub joints-fail : (draft : Draft) (kind : UrdfFaultKind) (fault : UrdfFault) → whole ≡ joints_after names heads joints (drop n drafts) → n < length drafts → draft ≡ get_or drafts n draft → Err kind ≡ joint_of names heads draft → fault ≡ placed_kind kind draft.joint.place → (fault ≡ no_memory) ⊎ (whole ≡ Err fault)
  unfolding joints_after next_joint
  joints-fail draft kind fault all within is made f =
      fails_along no_memory fault whole _ (all ∙ at_draft draft within is) (step_fails is_placing kind draft.joint.place fault (joint_of names heads draft) _ f (inr (sym made)))

  pub joints-more : (draft : Draft) (joint : UrdfJoint) (more : List UrdfJoint) → whole ≡ joints_after names heads joints (drop n drafts) → n < length drafts → draft ≡ get_or drafts n draft → Ok joint ≡ joint_of names heads draft → more ≡ joints ++ joint ∷ [] → whole ≡ joints_after names heads more (drop (n + 1) drafts)
  unfolding joints_after next_joint
  joints-more draft joint more all within is made m = all ∙ at_draft draft within is ∙ rw (← made, m) refl

  pub joints-end : whole ≡ joints_after names heads joints (drop n drafts) → length drafts ≤ n → whole ≡ Ok joints
  unfolding joints_after
  joints-end all end = all ∙ at_drop_all (joints_after names heads joints) drafts n end

-- the joints of drafts with these names and heads
pub joints-of_drafts : (names : List (List ℕ)) (heads : List Head) (drafts : List Draft) → names ≡ names_of_drafts drafts → heads ≡ map head_of drafts → joints_of drafts ≡ joints_after names heads [] drafts
unfolding joints_of
joints-of_drafts names heads drafts n h = rw (n, h) refl
