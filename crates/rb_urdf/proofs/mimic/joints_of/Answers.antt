use Rattle.std.proofs.Common.{◌≡◌, ◌∙◌, ◌+◌, ◌∷◌, [], ◌++◌, length, map, ap, arith}
use Rattle.std.proofs.lemmas.List.{length-append}
use Rattle.std.proofs.lemmas.Iterator.Adapters.{YieldsList-from_vec}
use Rattle.std.proofs.lemmas.Iterator.Consumers.{YieldsList-turn, YieldsList-end}
use Rattle.rb_urdf.specs.Mimics.{joint_of, head_of}
use Rattle.rb_urdf.proofs.JointLemmas.{joints-fail, joints-more, joints-end, joints-of_drafts}
use Rattle.rb_urdf.proofs.mimic.joints_of.Goals as goal

pub loop-draft-preserved : goal.loop-draft-preserved
loop-draft-preserved c =
    let turn = YieldsList-turn (YieldsList-from_vec c.args.drafts.items (cc) (omega arith)) c.loop-draft.yielded c.loop-draft.draft-iterator c.loop-draft.yielded_by _ c.next.new.self c.in-Some.draft c.in-Some.is c.next.ensures.steps in
    let one : length (c.loop-draft.yielded ++ c.in-Some.draft ∷ []) ≡ length c.loop-draft.yielded + 1 = length-append c.loop-draft.yielded (c.in-Some.draft ∷ []) in
    record {
      joints = rw one (joints-more c.args.names.now c.in_ok-heads.heads.items _ c.loop-draft.joints.items c.args.drafts.items (length c.loop-draft.yielded) c.in-Some.draft c.in-Ok.joint c.push.new.self.items c.loop-draft.invariant.joints turn.0 turn.1 (c.in-Ok.ensures ∙ ap (λ heads. joint_of c.args.names.now heads c.in-Some.draft) c.as_slice-in-loop-draft.ensures.value) c.in_ok-push-in-Ok.ensures.items);
      yielded = rw one (omega (arith, turn.0));
    }

pub returns-in-Err : goal.returns-in-Err
returns-in-Err c =
    let turn = YieldsList-turn (YieldsList-from_vec c.args.drafts.items (cc) (omega arith)) c.loop-draft.yielded c.loop-draft.draft-iterator c.loop-draft.yielded_by _ c.next.new.self c.in-Some.draft c.in-Some.is c.next.ensures.steps in
    joints-fail c.args.names.now c.in_ok-heads.heads.items _ c.loop-draft.joints.items c.args.drafts.items (length c.loop-draft.yielded) c.in-Some.draft c.in-Err.kind c.fault.result (joints-of_drafts c.args.names.now c.in_ok-heads.heads.items c.args.drafts.items c.requires.names (c.in_ok-heads.ensures ∙ ap (map head_of) c.as_slice.ensures.value) ∙ c.loop-draft.invariant.joints) turn.0 turn.1 (c.in-Err.ensures ∙ ap (λ heads. joint_of c.args.names.now heads c.in-Some.draft) c.as_slice-in-loop-draft.ensures.value) c.fault.ensures

pub returns : goal.returns
returns c =
    let end = YieldsList-end (YieldsList-from_vec c.args.drafts.items (cc) (omega arith)) c.loop-draft.yielded c.loop-draft.draft-iterator c.loop-draft.yielded_by _ c.next.new.self c.in-None.is c.next.ensures.steps in
    joints-end c.args.names.now c.in_ok-heads.heads.items _ c.loop-draft.joints.items c.args.drafts.items (length c.loop-draft.yielded) (joints-of_drafts c.args.names.now c.in_ok-heads.heads.items c.args.drafts.items c.requires.names (c.in_ok-heads.ensures ∙ ap (map head_of) c.as_slice.ensures.value) ∙ c.loop-draft.invariant.joints) (omega (arith, end.1))
