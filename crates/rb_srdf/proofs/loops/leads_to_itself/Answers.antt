use Rattle.rb_srdf.proofs.LoopWays.{no_way_back}
use Rattle.rb_srdf.proofs.loops.leads_to_itself.Goals as goal

pub returns-then-is_below : goal.returns-then-is_below
returns-then-is_below c = (
  λ t. absurd cc,
  λ w. absurd (no_way_back c.args.rows.now c.args.levels.now c.row_at.result.now c.args.ordered c.is_below.result c.args.number c.level_at-limit.result
      c.requires c.if-ordered.true c.level_at-limit.ensures c.row_at.ensures c.is_below.ensures c.if-is_below.true w),
)
