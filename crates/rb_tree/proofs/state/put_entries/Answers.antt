use Rattle.std.proofs.Common.{length}
use Rattle.rb_tree.proofs.StatePositions.{position_more, entry_room, set_ordered}
use Rattle.rb_tree.proofs.state.put_entries.Goals as goal

pub loop-entry-preserved : goal.loop-entry-preserved
loop-entry-preserved c =
    let entries = c.args.entries.now in
    let k = c.loop-entry.entry-index in
    let entry = c.entry-item.result in
    record {
      position = position_more entries k entry c.args.q.now c.loop-entry.q c.loop-entry-test.true c.entry-item.is (entry_room entries k entry (length c.args.q.now) c.requires c.loop-entry-test.true c.entry-item.is) c.loop-entry.invariant.position;
      ordered = set_ordered c.args.q.now c.loop-entry.q entry.place entry.value c.lo-ends.ensures.bounds.ordered c.loop-entry.invariant.ordered;
    }
