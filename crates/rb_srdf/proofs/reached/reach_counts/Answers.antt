use Rattle.std.proofs.Common.{arith}
use Rattle.rb_srdf.proofs.LoopCounts.{counted_more, counts_fall}
use Rattle.rb_srdf.proofs.reached.reach_counts.Goals as goal

pub loop-k-preserved : goal.loop-k-preserved
loop-k-preserved c =
    counted_more c.args.rows.now c.loop-k.k c.loop-k.counts.items c.push.new.self.items c.in_ok-reached.field-0.keys c.len-in-loop-k.result
    c.loop-k.invariant c.in_ok-push.ensures.items c.in_ok-reached.ensures c.len-in-loop-k.ensures.unique c.len-in-loop-k.ensures.len

pub returns : goal.returns
returns c = counts_fall c.args.rows.now c.loop-k.counts.items c.loop-k.k (omega arith) c.requires.free c.loop-k.invariant
