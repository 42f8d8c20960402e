use Rattle.std.proofs.Common.{◌≡◌, Ok, refl, ap, ◌∙◌, subst, arith}
use Rattle.rb_sweep.specs.Sweep.{sweep}
use Rattle.rb_work.specs.Path.{above, path}
use Rattle.rb_factor.specs.Sweeps.{entry_step}
use Rattle.rb_factor.proofs.Paths.{on_first, on_further}
use Rattle.rb_factor.proofs.Going.{going, others_packed, up_packed}
use Rattle.rb_factor.proofs.factors.divide_row.Goals as goal

pub loop-d-init : goal.loop-d-init
loop-d-init c = record {
  to = c.up-d.ensures.less;
  of_column = λ l. on_first _ c.columns-sizes.ensures.sized.extent.ascends _ _ c.requires.from c.up-d.ensures.value l;
  others = refl;
  rest = ap (λ b. sweep (entry_step c.args.work.now.up c.args.c c.args.p) (path c.args.work.now.up b) c.args.work.now.packed) c.up-d.ensures.value;
}

pub loop-d-preserved : goal.loop-d-preserved
loop-d-preserved c =
    let up = c.args.work.now.up in
    let ascends = c.columns-sizes.ensures.sized.extent.ascends in
    let others = others_packed c.loop-d.work c.divide_entry.new.work c.args.work.now c.divide_entry.ensures.others c.loop-d.invariant.others in
    let is : c.up-d-in-loop-d.result ≡ above up c.loop-d.d = c.up-d-in-loop-d.ensures.value ∙ ap (λ u. above u c.loop-d.d) (up_packed c.divide_entry.new.work c.args.work.now others) in
    record {
      to = omega (arith, c.up-d-in-loop-d.ensures.less, c.loop-d.invariant.to);
      of_column = λ l. on_further up ascends _ _ _ (c.loop-d.invariant.of_column (omega arith)) is l;
      others = others;
      rest =
          going up ascends _ c.loop-d.d _ _ _ _ (omega arith) is
          (subst (λ u. entry_step u c.args.c c.args.p c.loop-d.d c.loop-d.work.packed ≡ Ok c.divide_entry.new.work.packed) (up_packed c.loop-d.work c.args.work.now c.loop-d.invariant.others)
          c.in_ok-divide_entry.ensures.exact)
          c.loop-d.invariant.rest;
    }
