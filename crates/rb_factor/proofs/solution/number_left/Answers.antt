use Rattle.std.proofs.Common.{◌≡◌, sym, ap, ◌∙◌, arith}
use Rattle.rb_sweep.specs.Sweep.{sweep}
use Rattle.rb_work.specs.Path.{above, path}
use Rattle.rb_factor.specs.Sweeps.{part_step}
use Rattle.rb_factor.proofs.Paths.{on_first, on_further}
use Rattle.rb_factor.proofs.Going.{going}
use Rattle.rb_factor.proofs.solution.number_left.Goals as goal

pub loop-d-init : goal.loop-d-init
loop-d-init c = record {
  to = c.up-d.ensures.less;
  of_column = λ l. on_first _ c.columns-sizes.ensures.sized.extent.ascends _ _ c.requires.from c.up-d.ensures.value l;
  rest =
      ap (λ b. sweep (part_step c.args.work.now.up c.args.work.now.packed c.args.work.now.x c.args.c) (path c.args.work.now.up b) c.z-part.result) c.up-d.ensures.value
      ∙ ap (λ y. sweep (part_step c.args.work.now.up c.args.work.now.packed c.args.work.now.x c.args.c) (path c.args.work.now.up (above c.args.work.now.up c.args.c)) y) c.z-part.ensures;
}

pub loop-d-preserved : goal.loop-d-preserved
unfolding part_step
loop-d-preserved c =
    let up = c.args.work.now.up in
    let ascends = c.columns-sizes.ensures.sized.extent.ascends in
    let is : c.up-d-in-loop-d.result ≡ above up c.loop-d.d = c.up-d-in-loop-d.ensures.value in
    record {
      to = omega (arith, c.up-d-in-loop-d.ensures.less, c.loop-d.invariant.to);
      of_column = λ l. on_further up ascends _ _ _ (c.loop-d.invariant.of_column (omega arith)) is l;
      rest = going up ascends _ c.loop-d.d _ _ _ _ (omega arith) is (rw (← c.x.ensures, ← c.L.ensures, ← c.neg.ensures.exact) (sym c.in_ok-part.ensures.exact)) c.loop-d.invariant.rest;
    }
