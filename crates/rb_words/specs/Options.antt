-- The options of the command line, as clap sees them.
use Rattle.std.specs.Prelude.{true, List, [], ◌∷◌, Some, codes}
use Rattle.clap.specs.Walk.{Rule, Text}
use Rattle.clap.specs.Simple.{App, new_app, new_rule, on_top}
use Rattle.clap.specs.declared.builder.action.ArgAction.TheVariants.{SetTrue}

-- an option with one value; one that has to be given; one with a text for where it is not given
abbrev pub option : Text → Rule
option name = record (new_rule name) { long = Some name; value_names = 1 }

abbrev pub required : Rule → Rule
required rule = record rule { required = true }

abbrev pub by_default : Text → Rule → Rule
by_default text rule = record rule { defaults = text ∷ [] }

-- an option with no value
abbrev pub flag : Text → Rule
flag name = record (new_rule name) { long = Some name; action = Some SetTrue }

abbrev pub options : List Rule
options =
    required (option (codes "task"))
    ∷ required (option (codes "urdf"))
    ∷ option (codes "srdf")
    ∷ option (codes "state")
    ∷ option (codes "root")
    ∷ option (codes "constraints")
    ∷ by_default (codes "-") (option (codes "rows"))
    ∷ by_default (codes "0,0,-9.81") (option (codes "gravity"))
    ∷ flag (codes "echo")
    ∷ []

-- a command with these options and nothing else
unfoldable pub app : App
app = on_top (λ shape. record shape { rules = options }) (new_app (codes "rbd"))
