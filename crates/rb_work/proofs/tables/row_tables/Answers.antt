use Rattle.std.proofs.Common.{◌+◌, replicate, ap, ◌∙◌}
use Rattle.rb_work.specs.Zeros.{zero_forces}
use Rattle.rb_work.proofs.tables.row_tables.Goals as goal

pub returns : goal.returns
unfolding zero_forces
returns c = record {
  K = c.in_ok-filled.ensures ∙ ap (λ force. replicate (c.args.rows + 1) (replicate 2 force)) c.zero_force-force.ensures;
  J = c.in_ok-filled-2.ensures;
  g = c.in_ok-filled-3.ensures;
  Y = c.in_ok-filled-4.ensures;
  Z = c.in_ok-filled-5.ensures;
  pairs = c.in_ok-filled-6.ensures;
  e = c.in_ok-filled-7.ensures;
  lam = c.in_ok-filled-8.ensures;
}
