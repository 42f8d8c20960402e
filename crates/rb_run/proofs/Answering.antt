-- What an algorithm finds, as the answer of its task.
use Rattle.std.proofs.Common.{◌≡◌, OnOk, List, ◌++◌, Result, Ok, Err, refl, sym, subst}
use Rattle.rb_num.specs.Interval.{Interval}
use Rattle.rb_sweep.specs.Sweep.{Answers}
use Rattle.rb_tree.specs.Columns.{column_count}
use Rattle.rb_tree.specs.Robot.{Tree, AreBodies}
use Rattle.rb_tree.specs.State.{Row}
use Rattle.rb_work.specs.declared.names.RowFault.{RowFault}
use Rattle.rb_work.specs.View.{View}
use Rattle.rb_rnea.specs.Dynamics.{EnclosesDynamics, torques_in}
use Rattle.rb_mass.specs.Mass.{answer_of, table_in}
use Rattle.rb_mass.specs.Encloses.{EnclosesRowMass}
use Rattle.rb_constraint.specs.declared.constraints.Constraint.{Constraint}
use Rattle.rb_constraint.specs.Constraints.{constraints_of}
use Rattle.rb_contact.specs.Contact.{EnclosesContact, contact_of, forces_in}
use Rattle.rb_contact.specs.Forward.{EnclosesForward, accelerations_in}
use Rattle.rb_impact.specs.Impact.{EnclosesImpact, impact_of, speeds_in, impulses_in}
use Rattle.rb_aba.specs.Forward as Articulated
use Rattle.rb_rows.specs.declared.task.Task.{Task}
use Rattle.rb_rows.specs.declared.task.Task.TheVariants as task
use Rattle.rb_run.specs.Answers.{answer_for, values_in, upper_of, masses_in}
use Rattle.rb_run.specs.Meaning.{Encloses}
use Rattle.rb_run.proofs.Enclosing.{torques_enclose, accelerations_enclose, articulated_enclose, masses_enclose, contact_encloses, impulse_encloses}
use Rattle.rb_run.proofs.Upper.{upper_is, answers_then}

on_ok : {A : Type 0} (r : Result A RowFault) (P Q : Type 0) → (P → Q) → OnOk r P → OnOk r Q
on_ok (Ok x) P Q f p = f p
on_ok (Err e) P Q f p = p

module _ (asked : Task) where
  pub torques_found : asked ≡ task.Rnea → {A : Type 0} (r : Result A RowFault) (tree : Tree) (cons : List Constraint) (row : Row) (w : View) → OnOk r (EnclosesDynamics tree row w) → OnOk r (Encloses asked tree cons row (values_in asked tree cons w))
  torques_found is r tree cons row w lie =
      subst (λ t. OnOk r (Encloses t tree cons row (values_in t tree cons w))) (sym is) (on_ok r (EnclosesDynamics tree row w) (Encloses task.Rnea tree cons row (torques_in tree w)) (torques_enclose tree cons row w) lie)

  pub accelerations_found : asked ≡ task.Fd → {A : Type 0} (r : Result A RowFault) (tree : Tree) (cons : List Constraint) (row : Row) (w : View) → OnOk r (EnclosesForward tree row w) → OnOk r (Encloses asked tree cons row (values_in asked tree cons w))
  accelerations_found is r tree cons row w lie =
      subst (λ t. OnOk r (Encloses t tree cons row (values_in t tree cons w))) (sym is) (on_ok r (EnclosesForward tree row w) (Encloses task.Fd tree cons row (accelerations_in tree w)) (accelerations_enclose tree cons row w) lie)

  pub articulated_found : asked ≡ task.Aba → {A : Type 0} (r : Result A RowFault) (tree : Tree) (cons : List Constraint) (row : Row) (w : View) → OnOk r (Articulated.EnclosesForward tree row w) → OnOk r (Encloses asked tree cons row (values_in asked tree cons w))
  articulated_found is r tree cons row w lie =
      subst (λ t. OnOk r (Encloses t tree cons row (values_in t tree cons w))) (sym is)
      (on_ok r (Articulated.EnclosesForward tree row w) (Encloses task.Aba tree cons row (Articulated.accelerations_in tree w)) (articulated_enclose tree cons row w) lie)

  pub masses_found : asked ≡ task.Crba → {A : Type 0} (r : Result A RowFault) (tree : Tree) (cons : List Constraint) → AreBodies tree.bodies → (row : Row) (w : View) → OnOk r (EnclosesRowMass tree row w) → OnOk r (Encloses asked tree cons row (values_in asked tree cons w))
  masses_found is r tree cons kept row w lie =
      subst (λ t. OnOk r (Encloses t tree cons row (values_in t tree cons w))) (sym is) (on_ok r (EnclosesRowMass tree row w) (Encloses task.Crba tree cons row (masses_in tree w)) (masses_enclose tree kept w cons row) lie)

  pub masses_answer : asked ≡ task.Crba → {A : Type 0} (r : Result A RowFault) (tree : Tree) (cons : List Constraint) (row : Row) (w : View) → Answers r (answer_of tree row) (table_in tree w) → Answers r (answer_for asked tree cons row) (values_in asked tree cons w)
  masses_answer is r tree cons row w answers =
      subst (λ t. Answers r (answer_for t tree cons row) (values_in t tree cons w)) (sym is) (answers_then r (answer_of tree row) (table_in tree w) (upper_of (column_count tree.bodies)) (masses_in tree w) (upper_is tree w) answers)

  pub contact_found : asked ≡ task.Contact → {A : Type 0} (r : Result A RowFault) (tree : Tree) (cons : List Constraint) (row : Row) (w : View) → OnOk r (EnclosesContact tree row (constraints_of cons) w)
      → OnOk r (Encloses asked tree cons row (values_in asked tree cons w))
  contact_found is r tree cons row w lie =
      subst (λ t. OnOk r (Encloses t tree cons row (values_in t tree cons w))) (sym is)
      (on_ok r (EnclosesContact tree row (constraints_of cons) w) (Encloses task.Contact tree cons row (accelerations_in tree w ++ forces_in (constraints_of cons) w)) (contact_encloses tree cons row w) lie)

  pub contact_answer : asked ≡ task.Contact → {A : Type 0} (r : Result A RowFault) (tree : Tree) (cons : List Constraint) (row : Row) (w : View)
      → Answers r (contact_of tree row (constraints_of cons)) (accelerations_in tree w, forces_in (constraints_of cons) w) → Answers r (answer_for asked tree cons row) (values_in asked tree cons w)
  contact_answer is r tree cons row w answers =
      subst (λ t. Answers r (answer_for t tree cons row) (values_in t tree cons w)) (sym is)
      (answers_then r (contact_of tree row (constraints_of cons)) (accelerations_in tree w, forces_in (constraints_of cons) w) (λ (found : List Interval × List Interval). found.0 ++ found.1)
      (accelerations_in tree w ++ forces_in (constraints_of cons) w) refl answers)

  pub impulse_found : asked ≡ task.Impulse → {A : Type 0} (r : Result A RowFault) (tree : Tree) (cons : List Constraint) (row : Row) (w : View) → OnOk r (EnclosesImpact tree row (constraints_of cons) w)
      → OnOk r (Encloses asked tree cons row (values_in asked tree cons w))
  impulse_found is r tree cons row w lie =
      subst (λ t. OnOk r (Encloses t tree cons row (values_in t tree cons w))) (sym is)
      (on_ok r (EnclosesImpact tree row (constraints_of cons) w) (Encloses task.Impulse tree cons row (speeds_in tree w ++ impulses_in (constraints_of cons) w)) (impulse_encloses tree cons row w) lie)

  pub impulse_answer : asked ≡ task.Impulse → {A : Type 0} (r : Result A RowFault) (tree : Tree) (cons : List Constraint) (row : Row) (w : View)
      → Answers r (impact_of tree row (constraints_of cons)) (speeds_in tree w, impulses_in (constraints_of cons) w) → Answers r (answer_for asked tree cons row) (values_in asked tree cons w)
  impulse_answer is r tree cons row w answers =
      subst (λ t. Answers r (answer_for t tree cons row) (values_in t tree cons w)) (sym is)
      (answers_then r (impact_of tree row (constraints_of cons)) (speeds_in tree w, impulses_in (constraints_of cons) w) (λ (found : List Interval × List Interval). found.0 ++ found.1)
      (speeds_in tree w ++ impulses_in (constraints_of cons) w) refl answers)
