-- The text of a fault.
use Rattle.std.specs.Prelude.{ℕ, List, ◌++◌, codes}
use Rattle.rb_io.specs.Outside.{failed_word}
use Rattle.rb_io.specs.Calls as File
use Rattle.rb_tags.specs.Faults as Tags
use Rattle.rb_urdf.specs.Faults as Urdf
use Rattle.rb_tree.specs.Faults as Tree
use Rattle.rb_num.specs.Text as Number
use Rattle.outline.specs.declared.faults.Fault.{Fault}
use Rattle.outline.specs.declared.faults.Fault.TheVariants as Is

abbrev pub fault_text : Fault → List ℕ
fault_text Is.Usage = codes "usage: outline FILE"
fault_text (Is.File why) = codes "file: " ++ File.fault_word why
fault_text (Is.Tags why) = codes "tags: " ++ Tags.fault_text why
fault_text (Is.Urdf why) = codes "robot: " ++ Urdf.fault_text why
fault_text (Is.Tree why) = codes "tree: " ++ Tree.fault_text why
fault_text (Is.Mass why) = codes "mass: " ++ Number.fault_text why
fault_text (Is.Output why) = codes "output: " ++ failed_word
fault_text Is.Memory = codes "no memory"
