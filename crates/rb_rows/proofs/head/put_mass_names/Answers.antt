use Rattle.std.proofs.Common.{arith, map, string_bytes}
use Rattle.rb_rows.specs.Head.{pairs_at, mass_name}
use Rattle.rb_rows.proofs.HeadNames.{rows_more, rows_whole}
use Rattle.rb_rows.proofs.head.put_mass_names.Goals as goal

pub loop-c-preserved : goal.loop-c-preserved
loop-c-preserved c =
    rows_more (λ k. map mass_name (pairs_at c.args.count k)) (map string_bytes c.args.texts.now.items) _ _ c.loop-c.c (omega arith) c.in_ok-put_mass_row.ensures c.loop-c.invariant

pub returns : goal.returns
returns c = rows_whole _ _ c.args.count c.loop-c.c (omega arith) c.loop-c.invariant
