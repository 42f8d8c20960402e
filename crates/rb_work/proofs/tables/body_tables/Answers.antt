use Rattle.std.proofs.Common.{◌+◌, replicate, ap, ◌∙◌}
use Rattle.rb_work.specs.Zeros.{zero_entries, zero_columns}
use Rattle.rb_work.proofs.tables.body_tables.Goals as goal

pub returns : goal.returns
unfolding zero_entries zero_columns
returns c = record {
  q = c.in_ok-filled.ensures;
  X = c.in_ok-filled-2.ensures ∙ ap (replicate (c.args.bodies + 1)) c.zero_place-place.ensures;
  s = c.in_ok-filled-3.ensures;
  v = c.in_ok-filled-4.ensures ∙ ap (replicate (c.args.bodies + 1)) c.zero_motion-motion.ensures;
  c = c.in_ok-filled-5.ensures ∙ ap (replicate (c.args.bodies + 1)) c.zero_motion-motion.ensures;
  a = c.in_ok-filled-6.ensures ∙ ap (replicate (c.args.bodies + 1)) c.zero_motion-motion.ensures;
  b = c.in_ok-filled-7.ensures ∙ ap (replicate (c.args.bodies + 1)) c.zero_force-force.ensures;
  f = c.in_ok-filled-8.ensures ∙ ap (replicate (c.args.bodies + 1)) c.zero_force-force.ensures;
  t = c.in_ok-filled-9.ensures;
  I = c.in_ok-filled-10.ensures ∙ ap (replicate (c.args.bodies + 1)) c.zero_inertia-inertia.ensures;
  IA = c.in_ok-filled-11.ensures ∙ ap (replicate (c.args.bodies + 1)) c.zero_inertia-inertia.ensures;
  p = c.in_ok-filled-12.ensures ∙ ap (replicate (c.args.bodies + 1)) c.zero_force-force.ensures;
  Ia = c.in_ok-filled-13.ensures ∙ ap (replicate (c.args.bodies + 1)) c.zero_inertia-inertia.ensures;
  pa = c.in_ok-filled-14.ensures ∙ ap (replicate (c.args.bodies + 1)) c.zero_force-force.ensures;
  O = c.in_ok-filled-15.ensures ∙ ap (replicate (c.args.bodies + 1)) c.zero_table-table.ensures;
}
