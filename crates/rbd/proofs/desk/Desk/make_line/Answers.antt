use Rattle.std.proofs.Common.{◌∙◌}
use Rattle.rb_run.proofs.Answered.{answer_says}
use Rattle.rbd.proofs.desk.Desk.make_line.Goals as goal

pub returns-clause-bytes : goal.returns-clause-bytes
returns-clause-bytes c =
    let says = answer_says c.args.job.now _ _ c.args.number _ c.take.ensures.desk.slot c.in_ok-take.ensures.told c.answer_slot.ensures.exact in
    (rw c.clear.ensures.bytes at c.put_line.ensures.exact) ∙ says.line

pub returns-clause-refused : goal.returns-clause-refused
returns-clause-refused c =
    let says = answer_says c.args.job.now _ _ c.args.number _ c.take.ensures.desk.slot c.in_ok-take.ensures.told c.answer_slot.ensures.exact in
    c.is_refused.ensures ∙ says.refused
