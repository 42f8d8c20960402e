use Rattle.std.proofs.Common.{◌+◌, replicate, ap, ◌∙◌}
use Rattle.rb_work.proofs.tables.column_tables.Goals as goal

pub returns : goal.returns
returns c = record {
  T = c.in_ok-filled.ensures;
  H = c.in_ok-filled-2.ensures;
  packed = c.in_ok-filled-3.ensures;
  w = c.in_ok-filled-4.ensures;
  z = c.in_ok-filled-5.ensures;
  x = c.in_ok-filled-6.ensures;
  U = c.in_ok-filled-7.ensures ∙ ap (replicate (c.args.columns + 1)) c.zero_force-force.ensures;
  u = c.in_ok-filled-8.ensures;
  k = c.in_ok-filled-9.ensures;
  y = c.in_ok-filled-10.ensures;
}
