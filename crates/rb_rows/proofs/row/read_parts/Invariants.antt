use Rattle.std.proofs.Common.{◌≡◌, ◌<◌, length, drop}
use Rattle.rb_rows.specs.Plain.{parts_of}
use Rattle.rb_rows.proofs.RowSteps.{AreRead}
use Rattle.rb_rows.proofs.row.read_parts.Given as goal

abbrev pub invariant-loop-index : goal.invariant-loop-index
invariant-loop-index l = record {
  read : AreRead l.header (parts_of l.line) l.fn.into l.into l.index;
  left : l.index < length (parts_of l.line) → parts_of l.rest ≡ drop l.index (parts_of l.line);
}
