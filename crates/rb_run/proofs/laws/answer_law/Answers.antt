use Rattle.rb_constraint.specs.Constraints.{constraints_of}
use Rattle.rb_run.proofs.Means.{answer_means}
use Rattle.rb_run.proofs.laws.answer_law.Goals as goal

pub returns : goal.returns
returns c = record {
  means = λ asked tree cons row suits kept are.
      answer_means tree cons row kept
      (record {
        torques = c.answer_law.ensures.means tree row kept;
        torques_lie = c.answer_law.ensures.encloses tree row kept;
        masses = c.answer_law-2.ensures.means tree row kept;
        masses_lie = λ w are. c.table_law.ensures.answer tree row w kept are;
        accelerations = c.answer_law-3.ensures.means tree row kept;
        accelerations_lie = c.answer_law-3.ensures.encloses tree row kept;
        articulated = λ lead. c.answer_law-4.ensures.means tree row kept lead;
        contact = λ fit. c.contact_answer_law.ensures.means tree row (constraints_of cons) kept fit are.few;
        contact_lie = λ fit. c.contact_answer_law.ensures.encloses tree row (constraints_of cons) kept fit;
        impulse = λ fit. c.impact_answer_law.ensures.means tree row (constraints_of cons) kept fit are.few;
        impulse_lie = λ fit. c.impact_answer_law.ensures.encloses tree row (constraints_of cons) kept fit;
        articulated_lie = λ lead. c.answer_law-4.ensures.encloses tree row kept lead;
      })
      asked suits;
}
