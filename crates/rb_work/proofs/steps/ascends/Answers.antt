use Rattle.std.proofs.Common.{◌≤◌, slice_index_or, arith}
use Rattle.rb_work.proofs.PathLaws.{ascends_at}
use Rattle.rb_work.proofs.steps.ascends.Goals as goal

pub returns-then-c-up : goal.returns-then-c-up
returns-then-c-up c = (
  λ h. absurd cc,
  λ h. let low : slice_index_or c.args.up.now c.loop-c.c 0 ≤ c.loop-c.c = ascends_at _ h _ c.loop-c-test.true in absurd (omega arith),
)
