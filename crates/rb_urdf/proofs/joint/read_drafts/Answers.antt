use Rattle.std.proofs.Common.{ℕ, List, ◌∙◌, sym, refl, ap, arith}
use Rattle.std.specs.Prelude.{codes}
use Rattle.rb_urdf.specs.Joints.{drafts_after, draft_of, names_of_drafts}
use Rattle.rb_tags.proofs.Folds.{IsFold, fold-fails, fold-more, fold-other, fold-end, names_more, few_more, few_other}
use Rattle.rb_urdf.proofs.joint.read_drafts.Goals as goal
use Rattle.rb_tags.specs.Elements.{as_element}
use Rattle.rb_urdf.specs.Faults.{fault_at}
use Rattle.rb_urdf.proofs.Placed.{is_placing}

is_fold : (links : List (List ℕ)) → IsFold fault_at (drafts_after links) (λ drafts element. draft_of links (names_of_drafts drafts) element)
unfolding drafts_after
is_fold links = record { none = λ xs. refl; more = λ xs e es. refl }

pub returns-in-Err-clause-gives : goal.returns-in-Err-clause-gives
returns-in-Err-clause-gives c =
    fold-fails (is_fold c.args.links.now) (codes "joint") 1 _ c.loop-rest.drafts.items c.loop-rest.rest.now c.tag-item.result is_placing c.in-Err.kind c.fault.result _ _ c.loop-rest.invariant.drafts (omega arith) c.tag-item.is (sym c.is_child.ensures ∙ c.if-is_child.true) c.new.ensures (ap (λ names. draft_of c.args.links.now names (as_element c.new.result)) c.loop-rest.invariant.names) c.fault.ensures c.in-Err.ensures.gives

pub loop-rest-preserved-in_ok-push-in-Ok : goal.loop-rest-preserved-in_ok-push-in-Ok
loop-rest-preserved-in_ok-push-in-Ok c = record {
  drafts = fold-more (is_fold c.args.links.now) (codes "joint") 1 _ c.loop-rest.drafts.items c.loop-rest.rest.now c.tag-item.result _ _ c.in-Ok.draft c.push.new.self.items c.loop-rest.invariant.drafts (omega arith) c.tag-item.is (sym c.is_child.ensures ∙ c.if-is_child.true) c.new.ensures (ap (λ names. draft_of c.args.links.now names (as_element c.new.result)) c.loop-rest.invariant.names) c.in-Ok.ensures.gives c.in_ok-push-in-Ok.ensures.items;
  names = names_more (λ draft. draft.joint.name) c.loop-rest.drafts.items c.push.new.self.items c.in-Ok.draft _ _ c.loop-rest.invariant.names c.in-Ok.ensures.names c.in_ok-push-in-Ok.ensures.items;
  few = few_more c.loop-rest.drafts.items c.push.new.self.items c.in-Ok.draft c.loop-rest.rest.now _ c.in_ok-push-in-Ok.ensures.items (omega arith) c.loop-rest.invariant.few;
}

pub loop-rest-preserved : goal.loop-rest-preserved
loop-rest-preserved c = record {
  drafts = fold-other (is_fold c.args.links.now) (codes "joint") 1 _ c.loop-rest.drafts.items c.loop-rest.rest.now c.tag-item.result c.loop-rest.invariant.drafts (omega arith) c.tag-item.is (sym c.is_child.ensures ∙ c.if-is_child.false);
  names = c.loop-rest.invariant.names;
  few = few_other c.loop-rest.drafts.items c.loop-rest.rest.now _ (omega arith) c.loop-rest.invariant.few;
}

pub returns-clause-gives : goal.returns-clause-gives
returns-clause-gives c = fold-end (is_fold c.args.links.now) (codes "joint") 1 _ c.loop-rest.drafts.items c.loop-rest.rest.now c.loop-rest.invariant.drafts (omega arith)
