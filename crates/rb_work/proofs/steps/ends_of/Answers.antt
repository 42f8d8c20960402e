use Rattle.std.proofs.Common.{rules, sym, ◌+◌, ◌≤◌, slice_index_or, arith}
use Rattle.rb_work.proofs.PathLaws.{end_zero, up_to_one, up_to_more, next_end}
use Rattle.rb_work.proofs.steps.ends_of.Goals as goal

pub loop-c-init : goal.loop-c-init
loop-c-init c = record { end = sym (end_zero _ c.requires.ascends); ends = up_to_one _ _ _ (search rules) (sym (end_zero _ c.requires.ascends)) }

pub overflow_add-end-in-loop-c : goal.overflow_add-end-in-loop-c
overflow_add-end-in-loop-c c =
    let h : c.loop-c.end + slice_index_or c.args.depths.now (c.loop-c.c + 1) 0 ≤ 4096 =
    (next_end _ c.requires.ascends _ (omega arith) _ _ c.requires.depths c.requires.few c.loop-c.invariant.end).0 in
    search rules

pub loop-c-preserved : goal.loop-c-preserved
loop-c-preserved c =
    let h = (next_end _ c.requires.ascends _ (omega arith) _ _ c.requires.depths c.requires.few c.loop-c.invariant.end).1 in
    record { end = h; ends = up_to_more _ _ _ _ _ c.loop-c.invariant.ends (search rules) h }
