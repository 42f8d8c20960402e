use Rattle.rb_tree.proofs.GroupMarking.{below_marked, below_unmarked}
use Rattle.rb_tree.proofs.groups.numbers_of.Goals as goal
use Rattle.rb_tree.proofs.groups.numbers_of.Goals.{then-marked+in_ok-push, else-marked}

pub loop-number-preserved : goal.loop-number-preserved
loop-number-preserved c =
    let marks = c.args.marks.now in
    let k = c.loop-number.number in
    elim c.if-marked.branch [
      | then-marked+in_ok-push w ↦ rw (w.numbers-is, w.in_ok-push.ensures.items) (below_marked marks k c.loop-number.numbers.items c.loop-number.invariant w.if-marked.true)
      | else-marked w ↦ rw w.numbers-is (below_unmarked marks k c.loop-number.numbers.items c.loop-number.invariant w.if-marked.false)
    ]
