-- The names of parts.
use Rattle.std.specs.Prelude.{◌≡◌}
use Rattle.rb_srdf.specs.declared.parts.Parts.{Parts}
use Rattle.rb_srdf.specs.declared.parts.PartNames.{PartNames}
use Rattle.rb_srdf.specs.Srdf.{names_of_groups, names_of_virtuals}
use Rattle.rb_srdf.specs.StateNames.{names_of_states}

-- the names are those of the parts
pub record AreNamed (names : PartNames) (parts : Parts) : Type 0 where
  pub groups : names.groups ≡ names_of_groups parts.groups
  pub states : names.states ≡ names_of_states parts.states
  pub virtuals : names.virtuals ≡ names_of_virtuals parts.virtuals
