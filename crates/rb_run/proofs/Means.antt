-- What the one answer of each task means.
use Rattle.std.proofs.Common.{◌≡◌, ◌++◌, List, Result, Ok, Err, refl, sym, ap, ◌∙◌, subst}
use Rattle.rb_num.specs.Interval.{Interval}
use Rattle.rb_result.specs.Steps.{◌>>=◌}
use Rattle.rb_result.proofs.Results.{then-ok, same_ok}
use Rattle.rb_tree.specs.Columns.{column_count}
use Rattle.rb_tree.specs.Robot.{Tree, AreBodies}
use Rattle.rb_tree.specs.Shape.{shape_of}
use Rattle.rb_tree.specs.State.{Row}
use Rattle.rb_flat.specs.Contact.{RowsFit}
use Rattle.rb_work.specs.View.{View}
use Rattle.rb_rnea.specs.Dynamics as Inverse
use Rattle.rb_mass.specs.Mass as Mass
use Rattle.rb_mass.specs.Encloses.{EnclosesRowMass}
use Rattle.rb_constraint.specs.declared.constraints.Constraint.{Constraint}
use Rattle.rb_constraint.specs.Constraints.{constraints_of}
use Rattle.rb_contact.specs.Contact as Contact
use Rattle.rb_contact.specs.Forward as Forward
use Rattle.rb_impact.specs.Impact as Impact
use Rattle.rb_aba.specs.Forward as Articulated
use Rattle.rb_rows.specs.declared.task.Task.{Task}
use Rattle.rb_rows.specs.declared.task.Task.TheVariants as task
use Rattle.rb_run.specs.Answers.{AnswerMeans, upper_of}
use Rattle.rb_run.specs.Jobs.{Suits}
use Rattle.rb_run.specs.Meaning.{Encloses}
use Rattle.rb_run.proofs.Enclosing.{torques_enclose, accelerations_enclose, articulated_enclose, masses_enclose, contact_encloses, impulse_encloses}
use Rattle.rb_run.proofs.Upper.{upper_is}

-- a step that is never refused leaves refusals as they are
refused_first : {A B E : Type 0} (r : Result A E) (f : A → B) (e : E) → (r >>= λ x. Ok (f x)) ≡ Err e → r ≡ Err e
refused_first (Ok x) f e is = absurd cc
refused_first (Err d) f e is = let same : d ≡ e = cc in ap Err same

refused_then : {A B E : Type 0} (r : Result A E) (f : A → B) (e : E) → r ≡ Err e → (r >>= λ x. Ok (f x)) ≡ Err e
refused_then r f e is = rw is refl

module _ (tree : Tree) (cons : List Constraint) (row : Row) (kept : AreBodies tree.bodies) where
  torques_mean : Inverse.AnswerMeans tree row → Inverse.AnswerEncloses tree row → AnswerMeans task.Rnea tree cons row
  torques_mean means encloses = record {
    values = λ values is.
        let found = (means.values values).0 is in
        subst (Encloses task.Rnea tree cons row) found.2 (torques_enclose tree cons row found.0 (encloses.values found.0 found.1));
    refused = means.refused;
  }

  -- in what a work holds for the row lies the mass table of each choice
  abbrev MassesLie : Type 0
  MassesLie = (w : View) → Mass.AreRow tree row w → EnclosesRowMass tree row w

  masses_mean : Mass.AnswerMeans tree row → MassesLie → AnswerMeans task.Crba tree cons row
  masses_mean means encloses = record {
    values = λ values is.
        let upper = upper_of (column_count tree.bodies) in
        let step = then-ok (Mass.answer_of tree row) (λ table. Ok (upper table)) values is in
        let found = (means.values step.0).0 step.1 in
        let same : upper step.0 ≡ values = same_ok (upper step.0) values step.2 in
        subst (Encloses task.Crba tree cons row) (sym (upper_is tree found.0) ∙ ap upper found.2 ∙ same) (masses_enclose tree kept found.0 cons row (encloses found.0 found.1));
    refused = λ fault. (
      (λ is. (means.refused fault).0 (refused_first (Mass.answer_of tree row) (upper_of (column_count tree.bodies)) fault is)),
      (λ refused. refused_then (Mass.answer_of tree row) (upper_of (column_count tree.bodies)) fault ((means.refused fault).1 refused)),
    );
  }

  accelerations_mean : Forward.ForwardMeans tree row → Forward.ForwardEncloses tree row → AnswerMeans task.Fd tree cons row
  accelerations_mean means encloses = record {
    values = λ values is.
        let found = (means.values values).0 is in
        subst (Encloses task.Fd tree cons row) found.2 (accelerations_enclose tree cons row found.0 (encloses.values found.0 found.1));
    refused = means.refused;
  }

  articulated_mean : Articulated.AnswerMeans tree row → Articulated.AnswerEncloses tree row → AnswerMeans task.Aba tree cons row
  articulated_mean means encloses = record {
    values = λ values is.
        let found = (means.values values).0 is in
        subst (Encloses task.Aba tree cons row) found.2 (articulated_enclose tree cons row found.0 (encloses.values found.0 found.1));
    refused = means.refused;
  }

  contact_means : Contact.ContactMeans tree row (constraints_of cons) → Contact.ContactEncloses tree row (constraints_of cons) → AnswerMeans task.Contact tree cons row
  contact_means means encloses =
      let k = constraints_of cons in
      let joined : List Interval × List Interval → List Interval = λ found. found.0 ++ found.1 in
      record {
        values = λ values is.
            let step = then-ok (Contact.contact_of tree row k) (λ found. Ok (joined found)) values is in
            let found = (means.values step.0).0 step.1 in
            let same : joined step.0 ≡ values = same_ok (joined step.0) values step.2 in
            subst (Encloses task.Contact tree cons row) (ap joined found.2 ∙ same) (contact_encloses tree cons row found.0 (encloses.values found.0 found.1));
        refused = λ fault. (
          (λ is. (means.refused fault).0 (refused_first (Contact.contact_of tree row k) joined fault is)),
          (λ refused. refused_then (Contact.contact_of tree row k) joined fault ((means.refused fault).1 refused)),
        );
      }

  impulse_means : Impact.ImpactMeans tree row (constraints_of cons) → Impact.ImpactEncloses tree row (constraints_of cons) → AnswerMeans task.Impulse tree cons row
  impulse_means means encloses =
      let k = constraints_of cons in
      let joined : List Interval × List Interval → List Interval = λ found. found.0 ++ found.1 in
      record {
        values = λ values is.
            let step = then-ok (Impact.impact_of tree row k) (λ found. Ok (joined found)) values is in
            let found = (means.values step.0).0 step.1 in
            let same : joined step.0 ≡ values = same_ok (joined step.0) values step.2 in
            subst (Encloses task.Impulse tree cons row) (ap joined found.2 ∙ same) (impulse_encloses tree cons row found.0 (encloses.values found.0 found.1));
        refused = λ fault. (
          (λ is. (means.refused fault).0 (refused_first (Impact.impact_of tree row k) joined fault is)),
          (λ refused. refused_then (Impact.impact_of tree row k) joined fault ((means.refused fault).1 refused)),
        );
      }

  -- what is known of each algorithm; of articulated bodies where no joint follows another
  pub record EachMeans : Type 0 where
    pub torques : Inverse.AnswerMeans tree row
    pub torques_lie : Inverse.AnswerEncloses tree row
    pub masses : Mass.AnswerMeans tree row
    pub masses_lie : MassesLie
    pub accelerations : Forward.ForwardMeans tree row
    pub accelerations_lie : Forward.ForwardEncloses tree row
    pub articulated : Articulated.AllLead tree → Articulated.AnswerMeans tree row
    pub articulated_lie : Articulated.AllLead tree → Articulated.AnswerEncloses tree row
    pub contact : RowsFit (shape_of tree) (constraints_of cons) → Contact.ContactMeans tree row (constraints_of cons)
    pub contact_lie : RowsFit (shape_of tree) (constraints_of cons) → Contact.ContactEncloses tree row (constraints_of cons)
    pub impulse : RowsFit (shape_of tree) (constraints_of cons) → Impact.ImpactMeans tree row (constraints_of cons)
    pub impulse_lie : RowsFit (shape_of tree) (constraints_of cons) → Impact.ImpactEncloses tree row (constraints_of cons)

  pub answer_means : EachMeans → (asked : Task) → Suits asked tree cons → AnswerMeans asked tree cons row
  answer_means each task.Rnea suits = torques_mean each.torques each.torques_lie
  answer_means each task.Crba suits = masses_mean each.masses each.masses_lie
  answer_means each task.Fd suits = accelerations_mean each.accelerations each.accelerations_lie
  answer_means each task.Aba suits = let lead = suits.leads refl in articulated_mean (each.articulated lead) (each.articulated_lie lead)
  answer_means each task.Contact suits = contact_means (each.contact suits.fit) (each.contact_lie suits.fit)
  answer_means each task.Impulse suits = impulse_means (each.impulse suits.fit) (each.impulse_lie suits.fit)
