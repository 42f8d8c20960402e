use Rattle.std.proofs.Common.{arith}
use Rattle.rb_model.proofs.Parts.{entries_more, entries_end}
use Rattle.rb_model.proofs.lines.put_entries.Goals as goal

pub loop-place-preserved : goal.loop-place-preserved
loop-place-preserved c = entries_more c.args.start.now.q c.loop-place.place _ c.args.fields.now _ _ (omega arith) c.q.ensures.exact c.in_ok-put_iv.ensures c.loop-place.invariant

pub returns : goal.returns
returns c = entries_end c.args.start.now.q c.loop-place.place c.args.fields.now _ (omega arith) (omega arith) c.loop-place.invariant
