use Rattle.std.proofs.Common.{◌≡◌, take, []}
use Rattle.csv.specs.Records.{fields_of}
use Rattle.rb_rows.specs.Header.{targets_after}
use Rattle.rb_rows.proofs.HeaderSteps.{HasSeen, with_rest}
use Rattle.rb_rows.proofs.header.targets_of.Given as goal

abbrev pub invariant-loop-index : goal.invariant-loop-index
invariant-loop-index l = record {
  seen : HasSeen l.seen (take l.index (fields_of l.fields));
  whole : targets_after l.robot [] (fields_of l.fields) ≡ with_rest l.robot (fields_of l.fields) l.index l.targets.items;
}
