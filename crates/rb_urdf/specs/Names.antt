-- The names of links and joints.
use Rattle.std.specs.Prelude.{ℕ, if◌then◌else◌, List, bytes_eq, codes, Result, Ok, Err}
use Rattle.std.specs.List.{list_any}
use Rattle.rb_urdf.specs.declared.faults.UrdfFaultKind.{UrdfFaultKind}
use Rattle.rb_urdf.specs.declared.faults.UrdfFaultKind.TheVariants.{NoName, NameTwice}
use Rattle.rb_tags.specs.Elements.{Element, given}
use Rattle.rb_result.specs.Steps.{◌>>=◌}
use Rattle.std.specs.Option.{ok_or}

-- a name that none of these is
unfoldable pub new_name : List (List ℕ) → List ℕ → Result (List ℕ) UrdfFaultKind
new_name names name = if list_any (bytes_eq name) names then Err NameTwice else Ok name

-- the name of an element, which is given
unfoldable pub name_of : Element → Result (List ℕ) UrdfFaultKind
name_of element = ok_or (given (codes "name") element) NoName

-- the name of an element behind elements of these names
unfoldable pub name_after : List (List ℕ) → Element → Result (List ℕ) UrdfFaultKind
name_after names element = name_of element >>= new_name names
