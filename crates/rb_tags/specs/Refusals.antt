-- What is wrong with a file that has no tags, and where.
use Rattle.std.specs.Prelude.{◌≡◌, ◌≢◌, ◌⊎◌, ℕ, ◌+◌, ◌<◌, ◌≤◌, true, false, List, [], ◌∷◌, ◌++◌, length, codes, AllPairs}
use Rattle.std.specs.List.{AllPass, AllByRecursion, flat_map}
use Rattle.std.specs.Str.{IsUtf8, IsValidUpTo}
use Rattle.rb_tags.specs.declared.tag.TheConstants.{MAX_DEPTH, MAX_TAGS}
use Rattle.rb_tags.specs.declared.read.TagFault.{TagFault}
use Rattle.rb_tags.specs.declared.read.TagKind.{TagKind}
use Rattle.rb_tags.specs.declared.read.TagKind.TheVariants as kind
use Rattle.rb_tags.specs.Bytes.{is_space, is_text_byte}
use Rattle.rb_tags.specs.Seen.{OpenElement}
use Rattle.rb_tags.specs.Tags.{order_mark}
use Rattle.rb_tags.specs.Grammar.{IsSpace, WrittenStart, IsStart, start_text, WrittenEnd, IsEnd, end_text, Data, IsMark, mark_text, Part, IsPart, part_text, MayStand, Closes, count_after, Nest, left_open}
use Rattle.rb_tags.specs.BadMarks.{IsBadMark}

-- how many start tags there are after parts, and so many before them
abbrev pub count_in : ℕ → List Part → ℕ
count_in count [] = count
count_in count (p ∷ parts) = count_in (count_after count p.mark) parts

-- the byte order mark, where the file begins with one
abbrev pub IsLead : List ℕ → List ℕ → Type 0
IsLead bytes lead = (lead ≡ order_mark) ⊎ ((lead ≡ []) × ((rest : List ℕ) → bytes ≢ order_mark ++ rest))

-- the file is UTF-8, and begins with parts that nest, up to a place: after so many start tags, in these open elements, the rest follows
pub record Reached (bytes : List ℕ) (place count : ℕ) (elements : List OpenElement) (rest : List ℕ) : Type 0 where
  pub utf8 : IsUtf8 bytes
  pub lead : List ℕ
  pub parts : List Part
  pub lead_is : IsLead bytes lead
  pub are_parts : AllByRecursion IsPart parts
  pub nest : Nest (length lead) 0 [] parts
  pub text : bytes ≡ lead ++ (flat_map part_text parts ++ rest)
  pub place_is : place ≡ length lead + length (flat_map part_text parts)
  pub count_is : count ≡ count_in 0 parts
  pub elements_are : elements ≡ left_open (length lead) [] parts

-- after more text, which may stand there, a < follows at a place, and then the rest
pub record AtMark (bytes : List ℕ) (at count : ℕ) (elements : List OpenElement) (rest : List ℕ) : Type 0 where
  pub place : ℕ
  pub before : List ℕ
  pub reached : Reached bytes place count elements (before ++ (codes "<" ++ rest))
  pub is_text : AllPass is_text_byte before
  pub may_stand : MayStand elements before
  pub at_is : at ≡ place + length before

-- what follows a < is no mark, or does not close
pub record HasBadMark (bytes : List ℕ) (kind : TagKind) (at : ℕ) : Type 0 where
  pub count : ℕ
  pub elements : List OpenElement
  pub rest : List ℕ
  pub here : AtMark bytes at count elements rest
  pub bad : IsBadMark rest kind

-- outside the outermost element, after white space, a byte other than white space and <
pub record HasStrayText (bytes : List ℕ) (at : ℕ) : Type 0 where
  pub place : ℕ
  pub count : ℕ
  pub space : List ℕ
  pub first : ℕ
  pub rest : List ℕ
  pub here : Reached bytes place count [] (space ++ first ∷ rest)
  pub white : IsSpace space
  pub no_space : is_space first ≡ false
  pub is_text : is_text_byte first ≡ true
  pub at_is : at ≡ place + length space

-- a section of data outside the outermost element
pub record HasStrayData (bytes : List ℕ) (at : ℕ) : Type 0 where
  pub count : ℕ
  pub inside : List ℕ
  pub rest : List ℕ
  pub after : List ℕ
  pub here : AtMark bytes at count [] rest
  pub is_mark : IsMark (Data inside)
  pub text : codes "<" ++ rest ≡ mark_text (Data inside) ++ after

-- a start tag, which fits, at a place
pub record AtStart (bytes : List ℕ) (at count : ℕ) (elements : List OpenElement) (s : WrittenStart) : Type 0 where
  pub rest : List ℕ
  pub after : List ℕ
  pub here : AtMark bytes at count elements rest
  pub is_start : IsStart s
  pub text : codes "<" ++ rest ≡ start_text s ++ after

-- a second outermost element begins
pub record HasSecond (bytes : List ℕ) (at : ℕ) : Type 0 where
  pub count : ℕ
  pub s : WrittenStart
  pub here : AtStart bytes at count [] s
  pub second : 0 < count

-- a start tag inside an element, or the first one
pub record AtInner (bytes : List ℕ) (at count : ℕ) (elements : List OpenElement) (s : WrittenStart) : Type 0 where
  pub here : AtStart bytes at count elements s
  pub inside : (count ≡ 0) ⊎ (elements ≢ [])

abbrev pub AreDistinct : WrittenStart → Type 0
AreDistinct s = AllPairs (λ a b. a.name ≢ b.name) s.attrs

pub record HasTwice (bytes : List ℕ) (at : ℕ) : Type 0 where
  pub count : ℕ
  pub elements : List OpenElement
  pub s : WrittenStart
  pub here : AtInner bytes at count elements s
  pub alike : AreDistinct s → ⊥

pub record HasDepth (bytes : List ℕ) (at : ℕ) : Type 0 where
  pub count : ℕ
  pub elements : List OpenElement
  pub s : WrittenStart
  pub here : AtInner bytes at count elements s
  pub distinct : AreDistinct s
  pub deep : MAX_DEPTH ≤ length elements

pub record HasTooMany (bytes : List ℕ) (at : ℕ) : Type 0 where
  pub count : ℕ
  pub elements : List OpenElement
  pub s : WrittenStart
  pub here : AtInner bytes at count elements s
  pub distinct : AreDistinct s
  pub shallow : length elements < MAX_DEPTH
  pub many : MAX_TAGS ≤ count

-- an end tag that does not close the innermost open element
pub record HasMismatch (bytes : List ℕ) (at : ℕ) : Type 0 where
  pub count : ℕ
  pub elements : List OpenElement
  pub e : WrittenEnd
  pub rest : List ℕ
  pub after : List ℕ
  pub here : AtMark bytes at count elements rest
  pub is_end : IsEnd e
  pub text : codes "<" ++ rest ≡ end_text e ++ after
  pub other : Closes elements e.name → ⊥

-- the file ends in an element, whose start tag stands at a place
pub record LeavesOpen (bytes : List ℕ) (at : ℕ) : Type 0 where
  pub place : ℕ
  pub count : ℕ
  pub name : List ℕ
  pub others : List OpenElement
  pub rest : List ℕ
  pub here : Reached bytes place count (record { name = name; place = at } ∷ others) rest
  pub is_text : AllPass is_text_byte rest

-- the file ends with no element, and has a size
pub record HasNoElement (bytes : List ℕ) (at : ℕ) : Type 0 where
  pub place : ℕ
  pub rest : List ℕ
  pub here : Reached bytes place 0 [] rest
  pub white : IsSpace rest
  pub at_is : at ≡ length bytes

-- a fault of a kind at a place
abbrev pub HasFaultOf : List ℕ → TagKind → ℕ → Type 0
HasFaultOf bytes kind.NotUtf8 at = IsValidUpTo bytes at
HasFaultOf bytes kind.Doctype at = HasBadMark bytes kind.Doctype at
HasFaultOf bytes kind.Unclosed at = HasBadMark bytes kind.Unclosed at ⊎ (LeavesOpen bytes at ⊎ HasNoElement bytes at)
HasFaultOf bytes kind.BadMark at = HasBadMark bytes kind.BadMark at ⊎ (HasStrayText bytes at ⊎ (HasStrayData bytes at ⊎ HasSecond bytes at))
HasFaultOf bytes kind.Twice at = HasTwice bytes at
HasFaultOf bytes kind.Depth at = HasDepth bytes at
HasFaultOf bytes kind.TooMany at = HasTooMany bytes at
HasFaultOf bytes kind.Mismatch at = HasMismatch bytes at
HasFaultOf bytes kind.Memory at = ⊥

abbrev pub HasFault : List ℕ → TagFault → Type 0
HasFault bytes fault = HasFaultOf bytes fault.kind fault.at
