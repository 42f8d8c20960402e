-- Names that elements give.
use Rattle.std.specs.Prelude.{ℕ, Bool, if◌then◌else◌, List, bytes_eq, Result, Ok, Err}
use Rattle.std.specs.List.{list_any}
use Rattle.std.specs.Option.{ok_or}
use Rattle.rb_srdf.specs.declared.faults.SrdfFaultKind.{SrdfFaultKind}
use Rattle.rb_srdf.specs.declared.faults.SrdfFaultKind.TheVariants.{NoName, NameTwice}
use Rattle.rb_tags.specs.Elements.{Element, given}
use Rattle.rb_result.specs.Steps.{◌>>=◌}

-- one of these names
abbrev pub has_name : List (List ℕ) → List ℕ → Bool
has_name names name = list_any (bytes_eq name) names

-- the name that an attribute of an element gives, which is not empty
unfoldable pub name_in : List ℕ → Element → Result (List ℕ) SrdfFaultKind
name_in key element = ok_or (given key element) NoName

-- a name that none of these is
unfoldable pub new_name : List (List ℕ) → List ℕ → Result (Unit {0}) SrdfFaultKind
new_name names name = if has_name names name then Err NameTwice else Ok tt

-- a step of which only the fault counts
abbrev pub checked : {A : Type 0} → Result A SrdfFaultKind → Result (Unit {0}) SrdfFaultKind
checked step = step >>= λ _. Ok tt
