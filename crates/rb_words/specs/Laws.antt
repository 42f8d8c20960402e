-- What the words of a command line say, in a user's terms.
use Rattle.std.specs.Prelude.{◌≡◌, ◌==◌, not, true, false, Bool, List, [], ◌∷◌, ◌++◌, None, Some, Result, Ok, pos, neg_ℤ, codes}
use Rattle.clap.specs.Walk.{Text}
use Rattle.rb_frac.specs.Ops.{V3}
use Rattle.rb_num.specs.Interval.{Interval, interval}
use Rattle.rb_result.specs.Steps.{◌>>=◌}
use Rattle.rb_words.specs.declared.faults.WordsFault.{WordsFault}
use Rattle.rb_words.specs.declared.order.Order.{Order}
use Rattle.rb_words.specs.Words.{Asked, command_of, gravity_of, order_of, root_in}

-- a value that is a word of its own does not begin with a hyphen
abbrev pub stands_alone : Text → Bool
stands_alone [] = true
stands_alone (first ∷ rest) = not (first == 45)

abbrev pub short_words : Text → Text → Text → List Text
short_words program task urdf = program ∷ codes "--task" ∷ task ∷ codes "--urdf" ∷ urdf ∷ []

-- 9.81 m/s² down
abbrev pub standing_gravity : V3 Interval
standing_gravity = record {
  x = interval (pos 0) (pos 0);
  y = interval (pos 0) (pos 0);
  z = interval (neg_ℤ (pos 9810000000000)) (neg_ℤ (pos 9810000000000));
}

-- an order for a robot's file, with all else as it is where it is not told
abbrev pub by_defaults : Text → Order → Asked
by_defaults urdf order = record {
  order = order;
  urdf = urdf;
  srdf = None;
  state = None;
  root = None;
  constraints = None;
  rows = codes "-";
  gravity = standing_gravity;
  echo = false;
}

-- what is asked for where nothing but a task and the name of a robot's file is told
abbrev pub short_command : Text → Text → Result Asked WordsFault
short_command task urdf = order_of task >>= λ order. Ok (by_defaults urdf order)

-- a task and a file are enough, and then all else is as it is by default
abbrev pub ShortWordsTell : Type 0
ShortWordsTell = (program task urdf : Text) → stands_alone task ≡ true → stands_alone urdf ≡ true
    → command_of (short_words program task urdf) ≡ short_command task urdf

-- joined by `=` they may be any texts
abbrev pub joined_words : Text → Text → Text → List Text
joined_words program task urdf = program ∷ (codes "--task=" ++ task) ∷ (codes "--urdf=" ++ urdf) ∷ []

abbrev pub JoinedWordsTell : Type 0
JoinedWordsTell = (program task urdf : Text) → command_of (joined_words program task urdf) ≡ short_command task urdf

-- every option with its text, of which the last comes first
pub record Texts : Type 0 where
  pub task : Text
  pub urdf : Text
  pub srdf : Text
  pub state : Text
  pub root : Text
  pub constraints : Text
  pub rows : Text
  pub gravity : Text

abbrev pub all_words : Text → Texts → List Text
all_words program texts =
    program ∷ codes "--echo" ∷ (codes "--gravity=" ++ texts.gravity) ∷ (codes "--rows=" ++ texts.rows) ∷ (codes "--constraints=" ++ texts.constraints)
    ∷ (codes "--root=" ++ texts.root) ∷ (codes "--state=" ++ texts.state) ∷ (codes "--srdf=" ++ texts.srdf) ∷ (codes "--urdf=" ++ texts.urdf) ∷ (codes "--task=" ++ texts.task) ∷ []

-- each text is a part of the command of its own
abbrev pub all_command : Texts → Result Asked WordsFault
all_command texts =
    order_of texts.task >>= λ order. root_in (Some texts.root) >>= λ root. gravity_of texts.gravity >>= λ gravity. Ok (record {
      order = order;
      urdf = texts.urdf;
      srdf = Some texts.srdf;
      state = Some texts.state;
      root = root;
      constraints = Some texts.constraints;
      rows = texts.rows;
      gravity = gravity;
      echo = true;
    })

abbrev pub AllWordsTell : Type 0
AllWordsTell = (program : Text) (texts : Texts) → command_of (all_words program texts) ≡ all_command texts
