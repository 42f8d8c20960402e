use Rattle.rb_srdf.proofs.LoopSearch.{found_says}
use Rattle.rb_srdf.proofs.reached.is_on_loop.Goals as goal

pub returns : goal.returns
returns c =
    found_says c.args.rows.now c.args.number c.args.number c.in_ok-found.found.keys c.contains.result c.in_ok-found.ensures c.contains.ensures
