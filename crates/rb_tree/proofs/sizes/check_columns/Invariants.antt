use Rattle.std.proofs.Common.{◌≡◌, ◌≤◌, take}
use Rattle.std.specs.List.{sum_by}
use Rattle.rb_tree.specs.declared.sizes.TheConstants.{MAX_COLUMNS}
use Rattle.rb_tree.specs.Sizes.{stem_columns}
use Rattle.rb_tree.proofs.sizes.check_columns.Given as goal

abbrev pub invariant-loop-stem : goal.invariant-loop-stem
invariant-loop-stem l = record {
  columns_is : sum_by (stem_columns l.root l.joints) (take l.stem-index l.stems) ≡ l.columns;
  few : l.columns ≤ MAX_COLUMNS;
}
