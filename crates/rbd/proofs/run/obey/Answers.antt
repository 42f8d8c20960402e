use Rattle.std.proofs.Common.{◌∙◌, ap}
use Rattle.rb_words.specs.declared.order.Order.TheVariants as order
use Rattle.rbd.proofs.run.obey.Goals as goal

pub answer_rows-requires-clause-task : goal.answer_rows-requires-clause-task
answer_rows-requires-clause-task g c = record {
  leads = λ e. c.requires.leads (c.in-Rows.is ∙ ap order.Rows e);
  fit = c.requires.fit;
}
