use Rattle.std.proofs.Common.{arith}
use Rattle.rb_tree.proofs.StateEntries.{put_more, ordered_more}
use Rattle.rb_tree.proofs.states.put_values.Goals as goal

pub loop-k-preserved : goal.loop-k-preserved
loop-k-preserved c =
    let values = c.args.values.now in
    let value = c.index-values-k.result in
    record {
      entries = put_more c.args.place c.loop-k.k values value c.args.entries.now.items c.loop-k.entries.items c.push.new.self.items (omega arith) c.index-values-k.is c.loop-k.invariant.entries c.in_ok-push.ensures.items;
      ordered = ordered_more c.loop-k.k values value (omega arith) c.index-values-k.is c.lo-ends.ensures.bounds.ordered c.loop-k.invariant.ordered;
    }
