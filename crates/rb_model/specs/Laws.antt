-- What the model of a robot says.
use Rattle.std.specs.Prelude.{◌≡◌, List, Some}
use Rattle.csv.specs.Reading.{default_config, records, strip_bom}
use Rattle.rb_num.specs.Interval.{Interval}
use Rattle.rb_urdf.specs.declared.robot.UrdfKind.{UrdfKind}
use Rattle.rb_urdf.specs.Joints.{kind_named}
use Rattle.rb_tree.specs.Robot.{Tree}
use Rattle.rb_model.specs.Model.{kind_word, model_fields, model_text}

-- read as comma-separated values, the text is exactly its lines
abbrev pub ModelReadsBack : Type 0
ModelReadsBack = (tree : Tree) (q : List Interval) → records default_config (strip_bom (model_text tree q)) ≡ model_fields tree q

-- a kind's word is the type that names it in a robot file
abbrev pub KindReadsBack : Type 0
KindReadsBack = (kind : UrdfKind) → kind_named (kind_word kind) ≡ Some kind
