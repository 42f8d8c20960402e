use Rattle.std.proofs.Common.{◌≡◌, Ok, refl, ap, ◌∙◌, subst, arith}
use Rattle.rb_sweep.specs.Sweep.{sweep}
use Rattle.rb_work.specs.Path.{above, path}
use Rattle.rb_work.specs.View.{View}
use Rattle.rb_coupling.specs.Sweeps.{take_step, reduce_step}
use Rattle.rb_factor.proofs.Paths.{on_first, on_further}
use Rattle.rb_factor.proofs.Going.{going}
use Rattle.rb_coupling.proofs.Going.{others_Y, up_Y}
use Rattle.rb_coupling.proofs.rows.take_column.Goals as goal

pub loop-d-init : goal.loop-d-init
unfolding reduce_step
loop-d-init c = record {
  to = c.up-d.ensures.less;
  of_column = λ l. on_first _ c.columns-sizes.ensures.sized.extent.ascends _ _ c.requires.from c.up-d.ensures.value l;
  others = refl;
  rest =
      ap (λ b. sweep (take_step c.args.work.now.up c.args.work.now.packed c.args.r c.args.c c.Y-own.result) (path c.args.work.now.up b) c.args.work.now.Y) c.up-d.ensures.value
      ∙ ap (λ o. sweep (take_step c.args.work.now.up c.args.work.now.packed c.args.r c.args.c o) (path c.args.work.now.up (above c.args.work.now.up c.args.c)) c.args.work.now.Y) c.Y-own.ensures;
}

pub loop-d-preserved : goal.loop-d-preserved
loop-d-preserved c =
    let up = c.args.work.now.up in
    let ascends = c.columns-sizes.ensures.sized.extent.ascends in
    let others = others_Y c.loop-d.work c.lessen_number.new.work c.args.work.now c.lessen_number.ensures.others c.loop-d.invariant.others in
    let is : c.up-d-in-loop-d.result ≡ above up c.loop-d.d = c.up-d-in-loop-d.ensures.value ∙ ap (λ u. above u c.loop-d.d) (up_Y c.lessen_number.new.work c.args.work.now others) in
    record {
      to = omega (arith, c.up-d-in-loop-d.ensures.less, c.loop-d.invariant.to);
      of_column = λ l. on_further up ascends _ _ _ (c.loop-d.invariant.of_column (omega arith)) is l;
      others = others;
      rest =
          going up ascends _ c.loop-d.d _ _ _ _ (omega arith) is
          (subst (λ (v : View). take_step v.up v.packed c.args.r c.args.c c.Y-own.result c.loop-d.d c.loop-d.work.Y ≡ Ok c.lessen_number.new.work.Y) c.loop-d.invariant.others
          c.in_ok-lessen_number.ensures.exact)
          c.loop-d.invariant.rest;
    }
