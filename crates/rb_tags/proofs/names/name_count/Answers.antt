use Rattle.std.proofs.Common.{arith}
use Rattle.rb_tags.proofs.Distinct.{names_more}
use Rattle.rb_tags.proofs.names.name_count.Goals as goal

pub loop-rest-preserved : goal.loop-rest-preserved
loop-rest-preserved c =
    names_more c.args.attrs.now c.loop-rest.rest.now c.last-item.result c.loop-rest.names c.insert.new.self c.as_str.result _ c.loop-rest.invariant (omega arith) c.last-item.is c.as_str.ensures.same c.in_ok-insert.ensures.added c.in_ok-insert.ensures.len c.in_ok-insert.ensures.updates
