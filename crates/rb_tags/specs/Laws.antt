-- What reading is to the grammar.
use Rattle.std.specs.Prelude.{◌≡◌, ℕ, List, Ok, Err}
use Rattle.rb_tags.specs.declared.tag.Tag.{Tag}
use Rattle.rb_tags.specs.declared.read.TagFault.{TagFault}
use Rattle.rb_tags.specs.Tags.{tags_of}
use Rattle.rb_tags.specs.Grammar.{Accepts}
use Rattle.rb_tags.specs.Refusals.{HasFault}

-- the tags that are read are those of the grammar
abbrev pub ReadsAccepted : Type 0
ReadsAccepted = (bytes : List ℕ) (tags : List Tag) → tags_of bytes ≡ Ok tags → Accepts bytes tags

-- a file of the grammar is read
abbrev pub AcceptedIsRead : Type 0
AcceptedIsRead = (bytes : List ℕ) (tags : List Tag) → Accepts bytes tags → tags_of bytes ≡ Ok tags

-- a file has one list of tags
abbrev pub HasOneList : Type 0
HasOneList = (bytes : List ℕ) (tags others : List Tag) → Accepts bytes tags → Accepts bytes others → others ≡ tags

-- a file that is refused has the fault
abbrev pub RefusesFaulty : Type 0
RefusesFaulty = (bytes : List ℕ) (fault : TagFault) → tags_of bytes ≡ Err fault → HasFault bytes fault

-- a file with the fault is refused
abbrev pub FaultyIsRefused : Type 0
FaultyIsRefused = (bytes : List ℕ) (fault : TagFault) → HasFault bytes fault → tags_of bytes ≡ Err fault
