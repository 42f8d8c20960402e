-- The words of the command line.
use Rattle.std.specs.Prelude.{ℕ, ◌==◌, List, [], ◌∷◌, Bool, if◌then◌else◌, Option, Some, None, Result, Ok, Err, codes, find, unwrap_or, option_copied}
use Rattle.std.specs.List.{slice_split}
use Rattle.std.specs.Option.{ok_or}
use Rattle.std.specs.Result.{result_ok}
use Rattle.std.specs.Str.{bytes_eq}
use Rattle.clap.specs.Kinds.{Kinds}
use Rattle.clap.specs.Walk.{Row, Text, first_of}
use Rattle.clap.specs.Simple.{matches_of}
use Rattle.clap.specs.Faults.{fault_of}
use Rattle.rb_frac.specs.Ops.{V3}
use Rattle.rb_num.specs.Interval.{Interval}
use Rattle.rb_result.specs.Steps.{◌>>=◌}
use Rattle.rb_text.specs.Bracket.{bracket_of}
use Rattle.rb_tags.specs.declared.root.RootKind.{RootKind}
use Rattle.rb_tags.specs.declared.root.RootKind.TheVariants.{Fixed, Planar, Floating}
use Rattle.rb_rows.specs.Head.{task_word}
use Rattle.rb_rows.specs.declared.task.Task.TheVariants.{Rnea, Crba, Fd, Aba, Contact, Impulse}
use Rattle.rb_words.specs.declared.faults.WordsFault.{WordsFault}
use Rattle.rb_words.specs.declared.faults.WordsFault.TheVariants.{Words, Task, Root, Gravity}
use Rattle.rb_words.specs.declared.order.Order.{Order}
use Rattle.rb_words.specs.declared.order.Order.TheVariants.{Rows, Model, Columns}
use Rattle.rb_words.specs.declared.command.Command.{Command}
use Rattle.rb_words.specs.Options.{app}

abbrev pub fault_word : WordsFault → Text
fault_word Words = codes "words"
fault_word Task = codes "task"
fault_word Root = codes "root"
fault_word Gravity = codes "gravity"

-- ---- the order
abbrev pub order_word : Order → Text
order_word (Rows task) = task_word task
order_word Model = codes "model"
order_word Columns = codes "columns"

-- all orders
abbrev pub orders : List Order
orders = Rows Rnea ∷ Rows Crba ∷ Rows Fd ∷ Rows Aba ∷ Rows Contact ∷ Rows Impulse ∷ Model ∷ Columns ∷ []

unfoldable pub order_of : Text → Result Order WordsFault
order_of word = ok_or (find (λ order. bytes_eq word (order_word order)) orders) Task

-- ---- the root
unfoldable pub root_of : Text → Result RootKind WordsFault
root_of word =
    if bytes_eq word (codes "fixed") then Ok Fixed
    else (if bytes_eq word (codes "planar") then Ok Planar else (if bytes_eq word (codes "floating") then Ok Floating else Err Root))

-- the kind of root that is told, if one is
unfoldable pub root_in : Option Text → Result (Option RootKind) WordsFault
root_in None = Ok None
root_in (Some word) = root_of word >>= λ kind. Ok (Some kind)

-- ---- the gravity
abbrev pub is_comma : ℕ → Bool
is_comma byte = byte == 44

-- the parts of a text between commas
abbrev pub parts : Text → List Text
parts = slice_split is_comma

abbrev pub bracket_in : Text → Result Interval WordsFault
bracket_in text = ok_or (result_ok (bracket_of text)) Gravity

abbrev pub brackets_in : List Text → Result (V3 Interval) WordsFault
brackets_in (x ∷ y ∷ z ∷ []) = bracket_in x >>= λ x. bracket_in y >>= λ y. bracket_in z >>= λ z. Ok (record { x = x; y = y; z = z })
brackets_in _ = Err Gravity

-- the brackets of three number texts between commas
unfoldable pub gravity_of : Text → Result (V3 Interval) WordsFault
gravity_of text = brackets_in (parts text)

-- ---- the command
-- what words ask for: the order, the names of files and of a group state, the root, the gravity, and whether rows are put out again
pub record Asked : Type 0 where
  pub order : Order
  pub urdf : Text
  pub srdf : Option Text
  pub state : Option Text
  pub root : Option RootKind
  pub constraints : Option Text
  pub rows : Text
  pub gravity : V3 Interval
  pub echo : Bool

abbrev pub asked_by : Command → Asked
asked_by command = record {
  order = command.order;
  urdf = command.urdf.now;
  srdf = option_copied command.srdf;
  state = option_copied command.state;
  root = command.root;
  constraints = option_copied command.constraints;
  rows = command.rows.now;
  gravity = command.gravity;
  echo = command.echo;
}

-- the text of an option that has to be given, or has a default
abbrev pub text_of : Text → List Row → Text
text_of option rows = unwrap_or (first_of option rows) []

-- what the matches ask for; clap gives the text `true` to a flag that is given, and else `false`
unfoldable pub asked_in : List Row → Result Asked WordsFault
asked_in rows =
    order_of (text_of (codes "task") rows) >>= λ order.
    root_in (first_of (codes "root") rows) >>= λ root.
    gravity_of (text_of (codes "gravity") rows) >>= λ gravity.
    Ok (record {
      order = order;
      urdf = text_of (codes "urdf") rows;
      srdf = first_of (codes "srdf") rows;
      state = first_of (codes "state") rows;
      root = root;
      constraints = first_of (codes "constraints") rows;
      rows = text_of (codes "rows") rows;
      gravity = gravity;
      echo = bytes_eq (text_of (codes "echo") rows) (codes "true");
    })

-- where clap finds no fault
abbrev pub unless_refused : Kinds → Result Asked WordsFault → Result Asked WordsFault
unless_refused [] asked = asked
unless_refused (fault ∷ faults) asked = Err Words

-- what words ask for
unfoldable pub command_of : List Text → Result Asked WordsFault
command_of words = unless_refused (fault_of app words) (asked_in (matches_of app words))
