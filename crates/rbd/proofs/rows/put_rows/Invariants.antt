use Rattle.std.proofs.Common.{length, ◌≡◌, ◌≤◌, ◌+◌, IsTrue, false}
use Rattle.rb_io.specs.Calls.{Puts}
use Rattle.rb_io.specs.Cut.{lines_of}
use Rattle.rbd.specs.Desk.{IsDeskOf}
use Rattle.rbd.proofs.EachRow.{text_from, answer_from}
use Rattle.rbd.proofs.rows.put_rows.Given as goal

abbrev pub invariant-rows : goal.invariant-rows
invariant-rows g l = let sink = g.O.Sink in record {
  desk : IsDeskOf l.job l.desk;
  tells : IsTrue (sink.tells l.out) → IsTrue (sink.tells l.fn.out);
  count : l.number + length l.rest ≤ 1 + length l.rows;
  answer : answer_from l.job l.start l.header l.number l.bad (lines_of l.rest) ≡ answer_from l.job l.start l.header 1 false (lines_of l.rows);
  put : IsTrue (sink.tells l.out) → Puts (sink.put l.fn.out) (sink.put l.out) (text_from l.job l.start l.header 1 (lines_of l.rows)) (text_from l.job l.start l.header l.number (lines_of l.rest));
  faults : sink.faults l.out ≡ sink.faults l.fn.out;
}

abbrev pub decreases-rows : goal.decreases-rows
decreases-rows g l = length l.rest
