use Rattle.std.proofs.Common.{◌∙◌, sym, refl, ap, arith}
use Rattle.std.specs.Prelude.{codes}
use Rattle.rb_urdf.specs.Links.{links_after, link_of}
use Rattle.rb_tags.proofs.Folds.{IsFold, fold-fails, fold-more, fold-other, fold-end, names_more, few_more, few_other}
use Rattle.rb_urdf.proofs.link.read_links.Goals as goal
use Rattle.rb_tags.specs.Elements.{as_element}
use Rattle.rb_urdf.specs.Faults.{fault_at}
use Rattle.rb_urdf.proofs.Placed.{is_placing}
use Rattle.rb_urdf.specs.Robot.{names_of_links}

is_fold : IsFold fault_at links_after (λ links element. link_of (names_of_links links) element)
unfolding links_after
is_fold = record { none = λ xs. refl; more = λ xs e es. refl }

pub returns-in-Err-clause-gives : goal.returns-in-Err-clause-gives
returns-in-Err-clause-gives c =
    fold-fails is_fold (codes "link") 1 _ c.loop-rest.links.items c.loop-rest.rest.now c.tag-item.result is_placing c.in-Err.kind c.fault.result _ _ c.loop-rest.invariant.links (omega arith) c.tag-item.is (sym c.is_child.ensures ∙ c.if-is_child.true) c.new.ensures (ap (λ names. link_of names (as_element c.new.result)) c.loop-rest.invariant.names) c.fault.ensures c.in-Err.ensures.gives

pub loop-rest-preserved-in_ok-push-in-Ok : goal.loop-rest-preserved-in_ok-push-in-Ok
loop-rest-preserved-in_ok-push-in-Ok c = record {
  links = fold-more is_fold (codes "link") 1 _ c.loop-rest.links.items c.loop-rest.rest.now c.tag-item.result _ _ c.in-Ok.link c.push.new.self.items c.loop-rest.invariant.links (omega arith) c.tag-item.is (sym c.is_child.ensures ∙ c.if-is_child.true) c.new.ensures (ap (λ names. link_of names (as_element c.new.result)) c.loop-rest.invariant.names) c.in-Ok.ensures.gives c.in_ok-push-in-Ok.ensures.items;
  names = names_more (λ link. link.name) c.loop-rest.links.items c.push.new.self.items c.in-Ok.link _ _ c.loop-rest.invariant.names c.in-Ok.ensures.names c.in_ok-push-in-Ok.ensures.items;
  few = few_more c.loop-rest.links.items c.push.new.self.items c.in-Ok.link c.loop-rest.rest.now _ c.in_ok-push-in-Ok.ensures.items (omega arith) c.loop-rest.invariant.few;
}

pub loop-rest-preserved : goal.loop-rest-preserved
loop-rest-preserved c = record {
  links = fold-other is_fold (codes "link") 1 _ c.loop-rest.links.items c.loop-rest.rest.now c.tag-item.result c.loop-rest.invariant.links (omega arith) c.tag-item.is (sym c.is_child.ensures ∙ c.if-is_child.false);
  names = c.loop-rest.invariant.names;
  few = few_other c.loop-rest.links.items c.loop-rest.rest.now _ (omega arith) c.loop-rest.invariant.few;
}

pub returns-clause-gives : goal.returns-clause-gives
returns-clause-gives c = fold-end is_fold (codes "link") 1 _ c.loop-rest.links.items c.loop-rest.rest.now c.loop-rest.invariant.links (omega arith)
