use Rattle.std.proofs.Common.{rules}
use Rattle.rb_tags.proofs.ValueSteps.{references_more, references_refused, references_end, reads_shorter, reads_reference, reads_none}
use Rattle.rb_tags.proofs.values.is_value.Goals as goal

pub returns-in_default-reference : goal.returns-in_default-reference
returns-in_default-reference c =
    references_refused c.args.text.now _ _ c.loop-after.invariant.so_far c.in-Some.ensures.1 (reads_none c.reference.result _ c.reference.ensures c.in_default-reference.is)

pub loop-after-smaller : goal.loop-after-smaller
loop-after-smaller c = reads_shorter c.loop-after.rest.now _ _ c.in-Some.ensures.1 (reads_reference c.reference.result _ _ _ c.reference.ensures c.in-Some-reference.is)

pub loop-after-preserved : goal.loop-after-preserved
loop-after-preserved c =
    record { utf8 = search rules; so_far = references_more c.args.text.now _ _ _ _ c.loop-after.invariant.so_far c.in-Some.ensures.1 (reads_reference c.reference.result _ _ _ c.reference.ensures c.in-Some-reference.is) }

pub returns : goal.returns
returns c = references_end c.args.text.now _ c.loop-after.invariant.so_far c.in_default.ensures
