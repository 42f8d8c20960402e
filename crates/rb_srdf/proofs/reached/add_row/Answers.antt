use Rattle.std.proofs.Common.{get_or, refl}
use Rattle.rb_srdf.proofs.LoopSearch.{added_more}
use Rattle.rb_srdf.proofs.reached.add_row.Goals as goal

pub loop-number-preserved : goal.loop-number-preserved
loop-number-preserved c =
    let row = c.args.row.now in
    let i = c.loop-number.number-index in
    added_more c.args.found.now.keys row c.loop-number.found.keys c.insert.new.self.keys i (get_or row i 0) c.loop-number-test.true refl
    c.loop-number.invariant c.in_ok-insert.ensures.keys
