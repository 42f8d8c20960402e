use Rattle.std.proofs.Common.{◌≡◌, ◌∙◌, Err, Ok, ap, refl}
use Rattle.rbd.specs.declared.stop.ReadStop.TheVariants as read
use Rattle.rbd.specs.Plan.{plan}
use Rattle.rbd.specs.Run.{source}
use Rattle.rb_words.specs.declared.order.Order.TheVariants as order
use Rattle.rbd.proofs.Going.{obeys_reading, obeys_along, rows_along}
use Rattle.rbd.proofs.run.answer_rows.Goals as goal

pub returns-in-Err-clause-obeys : goal.returns-in-Err-clause-obeys
returns-in-Err-clause-obeys g c =
    rw c.of_reading.ensures
    (obeys_reading c.args.job.now c.args.start.now c.args.name.now _ _ c.in-Err.stop c.in-Err.ensures.refused (λ tells e. c.in-Err.ensures.longer tells (ap Err e)) (λ e. c.in-Err.ensures.long (ap Err e))
    (λ e. c.in-Err.ensures.rose (ap Err e)) (λ no. c.in-Err.ensures.kept (λ e. let is : c.in-Err.stop ≡ read.Input = cc in no is)) (record { count = refl; bytes = λ told. refl }))

pub returns-in-Ok-answer_all-clause-obeys : goal.returns-in-Ok-answer_all-clause-obeys
returns-in-Ok-answer_all-clause-obeys g c =
    obeys_along (plan (order.Rows c.args.job.now.task) c.args.job.now.robot c.args.start.now c.args.job.now.cons c.args.name.now c.args.job.now.echo) (source g.I.Inputs.tells g.I.Inputs.holds g.I.Inputs.given g.I.Inputs.faults c.args.inputs.now c.read_rows.new.inputs) _ (c.in-Ok.ensures.kept (λ e. absurd cc)) (Ok c.in-Ok-answer_all.refused)
    (rows_along c.args.job.now c.args.start.now c.args.name.now c.as_slice.result.now (source g.I.Inputs.tells g.I.Inputs.holds g.I.Inputs.given g.I.Inputs.faults c.args.inputs.now c.read_rows.new.inputs) _ _ (λ tells. c.as_slice.ensures ∙ c.in-Ok.ensures.bytes tells) (rw c.as_slice.ensures c.in-Ok.ensures.within) c.in-Ok-answer_all.ensures.follows)
    c.in-Ok-answer_all.ensures.long c.in-Ok-answer_all.ensures.rose c.in-Ok-answer_all.ensures.kept

pub returns-clause-obeys : goal.returns-clause-obeys
returns-clause-obeys g c =
    rw c.of_rows.ensures
    (obeys_along (plan (order.Rows c.args.job.now.task) c.args.job.now.robot c.args.start.now c.args.job.now.cons c.args.name.now c.args.job.now.echo) (source g.I.Inputs.tells g.I.Inputs.holds g.I.Inputs.given g.I.Inputs.faults c.args.inputs.now c.read_rows.new.inputs) _ (c.in-Ok.ensures.kept (λ e. absurd cc)) (Err c.in-Err-answer_all.stop)
    (rows_along c.args.job.now c.args.start.now c.args.name.now c.as_slice.result.now (source g.I.Inputs.tells g.I.Inputs.holds g.I.Inputs.given g.I.Inputs.faults c.args.inputs.now c.read_rows.new.inputs) _ _ (λ tells. c.as_slice.ensures ∙ c.in-Ok.ensures.bytes tells) (rw c.as_slice.ensures c.in-Ok.ensures.within) c.in-Err-answer_all.ensures.follows)
    c.in-Err-answer_all.ensures.long c.in-Err-answer_all.ensures.rose c.in-Err-answer_all.ensures.kept)
