use Rattle.std.proofs.Common.{sym}
use Rattle.rb_tree.proofs.MakingLaws.{constants_kept, model_kind}
use Rattle.rb_tree.proofs.parts.body_of.Goals as goal

pub returns-clause-kept : goal.returns-clause-kept
returns-clause-kept c =
    constants_kept c.args.link.now c.args.joint.now _ c.raw_of-link_raw.ensures (sym c.in_ok-inertia.ensures.exact) (sym c.in_ok-model.ensures.exact) c.in_ok-model.ensures.numbers
    c.in_order.ensures c.in_order-2.ensures

pub returns-clause-kind : goal.returns-clause-kind
returns-clause-kind c = model_kind c.args.joint.now c.in_ok-model.model c.in_ok-model.joint_raw (sym c.in_ok-model.ensures.exact) c.in_ok-model.ensures.numbers
