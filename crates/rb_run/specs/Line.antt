-- The line of a row.
use Rattle.std.specs.Prelude.{ℕ, ◌+◌, ◌*◌, List, [], ◌∷◌, ◌++◌, Bool, true, false, if◌then◌else◌, flat_map, codes, decimal}
use Rattle.rb_num.specs.Interval.{Interval}
use Rattle.rb_num.specs.Text.{iv_text}
use Rattle.rb_tree.specs.Columns.{column_count, entry_count}
use Rattle.rb_tree.specs.State.{Row}
use Rattle.rb_work.specs.Names.{text_of}
use Rattle.rb_work.specs.declared.names.RowFault.{RowFault}
use Rattle.rb_work.specs.declared.names.RowFault.TheVariants as Fault
use Rattle.rb_rows.specs.Faults.{field_text}
use Rattle.rb_run.specs.Slots.{value_count}
use Rattle.rb_run.specs.declared.job.Job.{Job}
use Rattle.rb_run.specs.declared.slot.Answer.{Answer}
use Rattle.rb_run.specs.declared.slot.Slot.{Slot}

-- ---- the answer and its cause
abbrev pub refusal_word : RowFault → List ℕ
refusal_word (Fault.Size name) = codes "size"
refusal_word (Fault.Range name) = codes "range"
refusal_word (Fault.NotUnit name) = codes "notunit"
refusal_word (Fault.Pivot name pivot) = codes "pivot"

abbrev pub word_of : Answer → List ℕ
word_of Answer.Idle = []
word_of Answer.Done = codes "ok"
word_of (Answer.Bad fault) = codes "field"
word_of (Answer.Refused fault) = refusal_word fault

-- the name of what is refused, and of a pivot its interval
abbrev pub refusal_text : RowFault → List ℕ
refusal_text (Fault.Size name) = text_of name
refusal_text (Fault.Range name) = text_of name
refusal_text (Fault.NotUnit name) = text_of name
refusal_text (Fault.Pivot name pivot) = text_of name ++ codes "=" ++ iv_text pivot

abbrev pub cause_text : Answer → List ℕ
cause_text Answer.Idle = []
cause_text Answer.Done = []
cause_text (Answer.Bad fault) = field_text fault
cause_text (Answer.Refused fault) = refusal_text fault

-- whether the fields of the row are right, and whether it has values
abbrev pub is_read : Answer → Bool
is_read (Answer.Bad fault) = false
is_read answer = true

abbrev pub is_done : Answer → Bool
is_done Answer.Done = true
is_done answer = false

-- ---- the numbers
-- the field of a number behind its comma, which is empty where the number is not told
abbrev pub number_text : Bool → Interval → List ℕ
number_text true number = 44 ∷ iv_text number
number_text false number = 44 ∷ []

abbrev pub numbers_text : Bool → List Interval → List ℕ
numbers_text told numbers = flat_map (number_text told) numbers

-- of a state: the position, the speeds, the accelerations, the torques
unfoldable pub state_text : Bool → Row → List ℕ
state_text told row = numbers_text told row.q ++ numbers_text told row.v ++ numbers_text told row.a ++ numbers_text told row.tau

abbrev pub echo_text : Bool → Slot → List ℕ
echo_text true slot = state_text (is_read slot.answer) slot.state
echo_text false slot = []

-- ---- the line
-- the number of the row, the answer, the cause, with echo the numbers of the row, the values
unfoldable pub line_of : Bool → Slot → List ℕ
line_of echo slot =
    decimal slot.row ++ codes "," ++ word_of slot.answer ++ codes "," ++ cause_text slot.answer
    ++ echo_text echo slot ++ numbers_text (is_done slot.answer) slot.values ++ codes "\n"

-- no line is longer: a number takes at most 81 bytes with its comma
abbrev pub echo_count : Job → ℕ
echo_count job = if job.echo then entry_count job.robot.bodies + 3 * column_count job.robot.bodies else 0

abbrev pub line_room : Job → ℕ
line_room job = 81 * (echo_count job + value_count job.robot job.cons job.task) + 200
