-- What reading is to the format.
use Rattle.std.specs.Prelude.{◌≡◌, ℕ, List, Ok}
use Rattle.rb_tags.specs.declared.tag.Tag.{Tag}
use Rattle.rb_srdf.specs.declared.faults.SrdfFault.{SrdfFault}
use Rattle.rb_srdf.specs.Groups.{HoldsItself}
use Rattle.rb_srdf.specs.Srdf.{Semantics}
use Rattle.rb_srdf.specs.Profile.{IsDescribed}
use Rattle.rb_srdf.specs.Refusals.{HasFault}
use Rattle.rb_srdf.specs.Read.{semantics_of, IsRefused}

-- what is read: no group holds itself
pub record IsRead (tags : List Tag) (semantics : Semantics) : Type 0 where
  pub are : semantics_of tags ≡ Ok semantics
  pub no_loop : (k : ℕ) → HoldsItself semantics.groups k → ⊥

-- the semantics that are read are those that the tags describe
abbrev pub ReadsDescribed : Type 0
ReadsDescribed = (tags : List Tag) (semantics : Semantics) → IsRead tags semantics → IsDescribed tags semantics

-- the semantics that the tags describe are read
abbrev pub DescribedIsRead : Type 0
DescribedIsRead = (tags : List Tag) (semantics : Semantics) → IsDescribed tags semantics → IsRead tags semantics

-- tags that are refused have the fault
abbrev pub RefusesFaulty : Type 0
RefusesFaulty = (tags : List Tag) (fault : SrdfFault) → IsRefused tags fault → HasFault tags fault

-- tags that have a fault are refused with it
abbrev pub FaultyIsRefused : Type 0
FaultyIsRefused = (tags : List Tag) (fault : SrdfFault) → HasFault tags fault → IsRefused tags fault

-- tags have at most one fault
abbrev pub HasOneFault : Type 0
HasOneFault = (tags : List Tag) (fault other : SrdfFault) → HasFault tags fault → HasFault tags other → fault ≡ other

-- and none where they describe semantics
abbrev pub FaultExcludesDescribed : Type 0
FaultExcludesDescribed = (tags : List Tag) (semantics : Semantics) (fault : SrdfFault) → IsDescribed tags semantics → HasFault tags fault → ⊥
