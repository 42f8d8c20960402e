use Rattle.std.proofs.Common.{◌≡◌, Ok, refl, ap, ◌∙◌, subst, arith}
use Rattle.rb_work.specs.Path.{above}
use Rattle.rb_work.proofs.PathLaws.{on_self}
use Rattle.rb_factor.specs.Sweeps.{update_step}
use Rattle.rb_factor.proofs.Paths.{on_further}
use Rattle.rb_factor.proofs.Going.{going, others_packed, up_packed}
use Rattle.rb_factor.proofs.factors.lessen_row.Goals as goal

pub loop-e-init : goal.loop-e-init
loop-e-init c = record {
  to = omega arith;
  of_column = λ l. c.requires.pair;
  of_row = λ l. on_self _ c.columns-sizes.ensures.sized.extent.ascends _ l;
  others = refl;
  rest = refl;
}

pub loop-e-preserved : goal.loop-e-preserved
loop-e-preserved c =
    let up = c.args.work.now.up in
    let ascends = c.columns-sizes.ensures.sized.extent.ascends in
    let others = others_packed c.loop-e.work c.lessen_entry.new.work c.args.work.now c.lessen_entry.ensures.others c.loop-e.invariant.others in
    let is : c.up-e.result ≡ above up c.loop-e.e = c.up-e.ensures.value ∙ ap (λ u. above u c.loop-e.e) (up_packed c.lessen_entry.new.work c.args.work.now others) in
    record {
      to = omega (arith, c.up-e.ensures.less, c.loop-e.invariant.to);
      of_column = λ l. on_further up ascends _ _ _ (c.loop-e.invariant.of_column (omega arith)) is l;
      of_row = λ l. on_further up ascends _ _ _ (c.loop-e.invariant.of_row (omega arith)) is l;
      others = others;
      rest =
          going up ascends _ c.loop-e.e _ _ _ _ (omega arith) is
          (subst (λ u. update_step u c.args.c c.args.d c.args.m c.loop-e.e c.loop-e.work.packed ≡ Ok c.lessen_entry.new.work.packed) (up_packed c.loop-e.work c.args.work.now c.loop-e.invariant.others)
          c.in_ok-lessen_entry.ensures.exact)
          c.loop-e.invariant.rest;
    }
