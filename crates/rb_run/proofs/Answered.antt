-- The lines of slots that are answered.
use Rattle.std.proofs.Common.{◌≡◌, ℕ, ◌+◌, List, [], ◌∷◌, Bool, true, false, length, replicate, Option, Some, None, Result, Ok, Err, refl, sym, ap, ◌∙◌, subst, length-append}
use Rattle.std.proofs.lemmas.List.{length-replicate}
use Rattle.std.proofs.lemmas.List.Sums.{sum_by-cons}
use Rattle.rb_num.specs.Interval.{Interval, zero_interval}
use Rattle.rb_flat.specs.Joint.{Kind, entry_count as kind_entries}
use Rattle.rb_flat.specs.Joint as Kinds
use Rattle.rb_joint.specs.Any.{kind_of}
use Rattle.rb_tree.specs.declared.robot.Body.{Body}
use Rattle.rb_tree.specs.declared.robot.Mimic.{Mimic}
use Rattle.rb_tree.specs.Columns.{column_count, entry_count, own_entries, unless_mimic}
use Rattle.rb_tree.specs.Robot.{Tree}
use Rattle.rb_tree.specs.State.{Row, Fits, neutral_entries, neutral_unless, neutral_of, neutral_position, neutral_under, standard_gravity}
use Rattle.rb_work.specs.declared.names.RowFault.{RowFault}
use Rattle.rb_rows.specs.declared.faults.FieldFault.{FieldFault}
use Rattle.rb_run.specs.declared.job.Job.{Job}
use Rattle.rb_run.specs.declared.slot.Answer.TheVariants as answer
use Rattle.rb_run.specs.declared.slot.Slot.{Slot}
use Rattle.rb_run.specs.declared.slot.SlotInput.{SlotInput}
use Rattle.rb_run.specs.declared.slot.SlotInput.TheVariants as Input
use Rattle.rb_run.specs.Line.{numbers_text, state_text, echo_text, is_read, line_of}
use Rattle.rb_run.specs.Slots.{value_count, IsSlotOf}
use Rattle.rb_run.specs.Answers.{answer_for, HasAnswer, IsAnsweredBy, Told, Holds, done_slot, refused_slot, bad_slot, slot_of, is_refused}

-- ---- fields of numbers that are not told
blank_same : (xs ys : List Interval) → length xs ≡ length ys → numbers_text false xs ≡ numbers_text false ys
blank_same [] [] long = refl
blank_same [] (y ∷ ys) long = absurd cc
blank_same (x ∷ xs) [] long = absurd cc
blank_same (x ∷ xs) (y ∷ ys) long = ap (λ t. 44 ∷ t) (blank_same xs ys cc)

state_same : (tree : Tree) (x y : Row) → Fits tree x → Fits tree y → state_text false x ≡ state_text false y
unfolding state_text
state_same tree x y a b =
    let q = blank_same x.q y.q (a.q ∙ sym b.q) in
    let v = blank_same x.v y.v (a.v ∙ sym b.v) in
    let acceleration = blank_same x.a y.a (a.a ∙ sym b.a) in
    let tau = blank_same x.tau y.tau (a.tau ∙ sym b.tau) in
    rw (q, v, acceleration, tau) refl

echo_same : (echo : Bool) (tree : Tree) (x y : Slot) → Fits tree x.state → Fits tree y.state → (fault : FieldFault) → x.answer ≡ answer.Bad fault → y.answer ≡ answer.Bad fault → echo_text echo x ≡ echo_text echo y
echo_same true tree x y a b fault xs ys = rw (xs, ys) (state_same tree x.state y.state a b)
echo_same false tree x y a b fault xs ys = refl

echo_alike : (echo : Bool) (x y : Slot) → x.state ≡ y.state → is_read x.answer ≡ is_read y.answer → echo_text echo x ≡ echo_text echo y
echo_alike true x y state read = rw (state, read) refl
echo_alike false x y state read = refl

-- ---- the neutral state
entries_long : (k : Kind) → length (neutral_entries k) ≡ kind_entries k
entries_long Kinds.Fixed = refl
entries_long Kinds.Revolute = refl
entries_long Kinds.Continuous = refl
entries_long Kinds.Prismatic = refl
entries_long Kinds.Planar = refl
entries_long Kinds.Free = refl

unless_long : (m : Option Mimic) (k : Kind) → length (neutral_unless m (neutral_entries k)) ≡ unless_mimic m (kind_entries k)
unless_long None k = entries_long k
unless_long (Some mimic) k = refl

position_long : (bodies : List Body) → length (neutral_position bodies) ≡ entry_count bodies
position_long [] = refl
position_long (body ∷ rest) =
    let first : length (neutral_of body) ≡ own_entries body = unless_long body.mimic (kind_of body.joint) in
    let long = length-append (neutral_of body) (neutral_position rest) in
    long ∙ ap (λ (n : ℕ). n + length (neutral_position rest)) first ∙ ap (λ (n : ℕ). own_entries body + n) (position_long rest) ∙ sym (sum_by-cons own_entries body rest)

neutral_fits : (tree : Tree) → Fits tree (neutral_under standard_gravity tree)
unfolding neutral_under
neutral_fits tree =
    let still = length-replicate (column_count tree.bodies) zero_interval in
    record { q = position_long tree.bodies; v = still; a = still; tau = still }

-- ---- the line of a slot whose answer is that of what its row told
-- with the same number, and the same state
line_refused : (echo : Bool) (job : Job) (x : Slot) (number : ℕ) (row : Row) (fault : RowFault) → x.row ≡ number → x.state ≡ row → x.answer ≡ answer.Refused fault → length x.values ≡ value_count job.robot job.cons job.task
    → line_of echo x ≡ line_of echo (refused_slot job number row fault)
unfolding line_of
line_refused echo job x number row fault at state says long =
    let blank = blank_same x.values (replicate (value_count job.robot job.cons job.task) zero_interval) (long ∙ sym (length-replicate (value_count job.robot job.cons job.task) zero_interval)) in
    let echoed = echo_alike echo x (refused_slot job number row fault) state (ap is_read says) in
    rw (echoed, says, at, blank) refl

line_bad : (echo : Bool) (job : Job) (x : Slot) (number : ℕ) (fault : FieldFault) → x.row ≡ number → Fits job.robot x.state → x.answer ≡ answer.Bad fault → length x.values ≡ value_count job.robot job.cons job.task
    → line_of echo x ≡ line_of echo (bad_slot job number fault)
unfolding line_of
line_bad echo job x number fault at fits says long =
    let blank = blank_same x.values (replicate (value_count job.robot job.cons job.task) zero_interval) (long ∙ sym (length-replicate (value_count job.robot job.cons job.task) zero_interval)) in
    let state = echo_same echo job.robot x (bad_slot job number fault) fits (neutral_fits job.robot) fault says refl in
    rw (state, says, at, blank) refl

-- what the slot of a row says once it is answered
pub record SaysAnswer (job : Job) (x : Slot) (number : ℕ) (told : Told) : Type 0 where
  pub line : line_of job.echo x ≡ line_of job.echo (slot_of job number told)
  pub refused : is_refused x ≡ is_refused (slot_of job number told)

row_says : (job : Job) (old new : Slot) (number : ℕ) (row : Row) (result : Result (List Interval) RowFault) → answer_for job.task job.robot job.cons row ≡ result → length old.values ≡ value_count job.robot job.cons job.task
    → old.row ≡ number → old.input ≡ Input.Row → old.state ≡ row → HasAnswer result old new → SaysAnswer job new number (Ok row)
row_says job old new number row (Ok values) is long at input state answers =
    let same : new ≡ done_slot number row values = rw (at, input, state) at answers in
    let right : done_slot number row values ≡ slot_of job number (Ok row) = rw is refl in
    let all : new ≡ slot_of job number (Ok row) = same ∙ right in
    record { line = ap (line_of job.echo) all; refused = ap is_refused all }
row_says job old new number row (Err fault) is long at input state answers =
    let says : new.answer ≡ answer.Refused fault = ap (λ (x : Slot). x.answer) answers in
    let number_is : new.row ≡ number = ap (λ (x : Slot). x.row) answers ∙ at in
    let state_is : new.state ≡ row = ap (λ (x : Slot). x.state) answers ∙ state in
    let values_are : new.values ≡ old.values = ap (λ (x : Slot). x.values) answers in
    record {
      line = rw is (line_refused job.echo job new number row fault number_is state_is says (rw values_are long));
      refused = rw (is, says) refl;
    }

pub answer_says : (job : Job) (old new : Slot) (number : ℕ) (told : Told) → IsSlotOf job old → Holds old number told → IsAnsweredBy job old.input old new → SaysAnswer job new number told
answer_says job old new number (Ok row) fits holds answers =
    row_says job old new number row (answer_for job.task job.robot job.cons row) refl fits.values holds.row holds.input.0 holds.input.1
    (subst (λ (s : Row). HasAnswer (answer_for job.task job.robot job.cons s) old new) holds.input.1 (subst (λ (i : SlotInput). IsAnsweredBy job i old new) holds.input.0 answers))
answer_says job old new number (Err fault) fits holds answers =
    let is : new ≡ record old { answer = answer.Bad fault } = subst (λ (i : SlotInput). IsAnsweredBy job i old new) holds.input answers in
    let says : new.answer ≡ answer.Bad fault = ap (λ (x : Slot). x.answer) is in
    let number_is : new.row ≡ number = ap (λ (x : Slot). x.row) is ∙ holds.row in
    let state_is : new.state ≡ old.state = ap (λ (x : Slot). x.state) is in
    let values_are : new.values ≡ old.values = ap (λ (x : Slot). x.values) is in
    record {
      line = line_bad job.echo job new number fault number_is (rw state_is fits.state) says (rw values_are fits.values);
      refused = rw says refl;
    }
