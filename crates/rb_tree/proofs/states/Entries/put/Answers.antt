use Rattle.std.proofs.lemmas.Result.{on_ok_weaker}
use Rattle.rb_tree.proofs.StateKept.{entries_ordered}
use Rattle.rb_tree.proofs.states.Entries.put.Goals as goal

pub returns-clause-ordered : goal.returns-clause-ordered
returns-clause-ordered c =
    on_ok_weaker c.put_values.result (entries_ordered c.more.inside.place c.more.inside.values c.as_slice.result.now c.args.more.now c.as_slice.ensures.values c.more.view_is) c.put_values.ensures.ordered
