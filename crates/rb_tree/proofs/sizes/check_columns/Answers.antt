use Rattle.std.proofs.Common.{ap, sym}
use Rattle.rb_tree.proofs.Totals.{pass_columns}
use Rattle.rb_tree.proofs.sizes.check_columns.Goals as goal

pub returns-then-columns-gt-MAX_COLUMNS-clause-err : goal.returns-then-columns-gt-MAX_COLUMNS-clause-err
returns-then-columns-gt-MAX_COLUMNS-clause-err c =
    let says = c.fault.ensures in (
      ap (λ f. f.file) says,
      ap (λ f. f.kind) says,
      pass_columns c.args.root.now c.args.joints.now c.args.stems.now c.loop-stem.stem-index c.in-Some.joint.now c.loop-stem.columns c.columns_of-columns.result c.fault.result.at
          c.loop-stem-test.true (sym c.in-Some.ensures) (ap (λ f. f.at) says) c.loop-stem.invariant.columns_is c.loop-stem.invariant.few
          c.columns_of-columns.ensures c.if-columns-gt-MAX_COLUMNS.true,
    )
