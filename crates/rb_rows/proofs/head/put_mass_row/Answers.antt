use Rattle.std.proofs.Common.{arith, ◌∙◌, ap, map, string_bytes}
use Rattle.rb_rows.specs.Head.{mass_name}
use Rattle.rb_rows.proofs.HeadNames.{row_more, row_whole}
use Rattle.rb_rows.proofs.head.put_mass_row.Goals as goal

pub loop-d-preserved : goal.loop-d-preserved
loop-d-preserved c =
    ap (map string_bytes) c.in_ok-push.ensures.items
    ∙ row_more string_bytes (λ e. mass_name (c.args.c, e)) c.args.texts.now.items c.loop-d.texts.items c.in_ok-name.name c.args.c c.loop-d.d (omega arith) c.in_ok-name.ensures c.loop-d.invariant

pub returns : goal.returns
returns c = row_whole _ _ c.args.count c.args.c c.loop-d.d (omega arith) c.loop-d.invariant
