use Rattle.std.proofs.Common.{rules, sym, ◌≤◌}
use Rattle.rb_work.proofs.PathLaws.{depth_done, up_to_one, up_to_more, above_has_depth, next_depth}
use Rattle.rb_work.proofs.steps.depths_of.Goals as goal

pub loop-above-init : goal.loop-above-init
loop-above-init c = up_to_one _ _ _ (search rules) (sym (depth_done _ c.requires.ascends))

pub index-depth-requires : goal.index-depth-requires
index-depth-requires c = let h = above_has_depth _ c.requires.ascends _ (search rules) _ c.loop-above.invariant.long in search rules

pub overflow_add-depth : goal.overflow_add-depth
overflow_add-depth c =
    let h : c.index-depth.result.now ≤ c.loop-above.above-index =
    (next_depth _ c.requires.ascends _ c.loop-above-test.true _ _ c.loop-above.invariant c.index-depth.ensures).0 in
    search rules

pub loop-above-preserved : goal.loop-above-preserved
loop-above-preserved c =
    up_to_more _ _ _ _ _ c.loop-above.invariant (search rules)
    (next_depth _ c.requires.ascends _ c.loop-above-test.true _ _ c.loop-above.invariant c.index-depth.ensures).1
