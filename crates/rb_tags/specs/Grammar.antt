-- What a file of tags is as text, and the tags that it has.
use Rattle.std.specs.Prelude.{◌≡◌, ◌≢◌, ◌⊎◌, ℕ, ◌+◌, ◌<◌, Bool, true, List, [], ◌∷◌, ◌++◌, length, map, codes, AllPairs, if◌then◌else◌}
use Rattle.std.specs.List.{AllPass, AllByRecursion, flat_map}
use Rattle.std.specs.Str.{IsUtf8}
use Rattle.rb_tags.specs.declared.tag.Attr.{Attr}
use Rattle.rb_tags.specs.declared.tag.Tag.{Tag}
use Rattle.rb_tags.specs.declared.tag.TheConstants.{MAX_DEPTH, MAX_TAGS}
use Rattle.rb_tags.specs.declared.marks.StartTag.{StartTag}
use Rattle.rb_tags.specs.Bytes.{is_space, is_name_byte, is_value_byte, is_quote, is_text_byte}
use Rattle.rb_tags.specs.Values.{Piece, IsPiece, piece_text, piece_value}
use Rattle.rb_tags.specs.Marks.{begins_name, Mark}
use Rattle.rb_tags.specs.Seen.{OpenElement}
use Rattle.rb_tags.specs.Tags.{order_mark}

abbrev pub IsSpace : List ℕ → Type 0
IsSpace bytes = AllPass is_space bytes

-- one or more characters of names, the first neither ! nor ?
pub record IsName (bytes : List ℕ) : Type 0 where
  pub of_name_bytes : AllPass is_name_byte bytes
  pub begins : begins_name bytes ≡ true

-- an attribute as it is written, with the white space before it and round its =
pub record WrittenAttr : Type 0 where
  pub before : List ℕ
  pub name : List ℕ
  pub left : List ℕ
  pub right : List ℕ
  pub quote : ℕ
  pub pieces : List Piece

abbrev pub value_text : WrittenAttr → List ℕ
value_text a = flat_map piece_text a.pieces

pub record IsAttr (a : WrittenAttr) : Type 0 where
  pub apart : a.before ≢ []
  pub before : IsSpace a.before
  pub name : IsName a.name
  pub left : IsSpace a.left
  pub right : IsSpace a.right
  pub quote : is_quote a.quote ≡ true
  pub pieces : AllByRecursion IsPiece a.pieces
  pub value : AllPass (is_value_byte a.quote) (value_text a)

abbrev pub attr_text : WrittenAttr → List ℕ
attr_text a = a.before ++ (a.name ++ (a.left ++ (codes "=" ++ (a.right ++ (a.quote ∷ (value_text a ++ a.quote ∷ []))))))

abbrev pub attr_of : WrittenAttr → Attr
attr_of a = record { name = a.name; value = flat_map piece_value a.pieces }

-- a start tag as it is written, with the white space at its end
pub record WrittenStart : Type 0 where
  pub name : List ℕ
  pub attrs : List WrittenAttr
  pub after : List ℕ
  pub closes : Bool

pub record IsStart (s : WrittenStart) : Type 0 where
  pub name : IsName s.name
  pub attrs : AllByRecursion IsAttr s.attrs
  pub after : IsSpace s.after

abbrev pub start_text : WrittenStart → List ℕ
start_text s = codes "<" ++ (s.name ++ (flat_map attr_text s.attrs ++ (s.after ++ (if s.closes then codes "/>" else codes ">"))))

-- an end tag as it is written
pub record WrittenEnd : Type 0 where
  pub name : List ℕ
  pub after : List ℕ

pub record IsEnd (e : WrittenEnd) : Type 0 where
  pub name : IsName e.name
  pub after : IsSpace e.after

abbrev pub end_text : WrittenEnd → List ℕ
end_text e = codes "</" ++ (e.name ++ (e.after ++ codes ">"))

-- a part runs to the first place where its closing bytes stand
abbrev pub RunsTo : List ℕ → List ℕ → Type 0
RunsTo closing body = (front back : List ℕ) → body ++ closing ≡ front ++ (closing ++ back) → back ≡ []

-- a mark as it is written: an instruction, a comment, a section of data, a start tag or an end tag
pub data WrittenMark : Type 0 where
  Instruction : List ℕ → WrittenMark
  Comment : List ℕ → WrittenMark
  Data : List ℕ → WrittenMark
  Start : WrittenStart → WrittenMark
  End : WrittenEnd → WrittenMark

abbrev pub IsMark : WrittenMark → Type 0
IsMark (Instruction body) = RunsTo (codes "?>") body
IsMark (Comment body) = RunsTo (codes "-->") body
IsMark (Data body) = RunsTo (codes "]]>") body
IsMark (Start s) = IsStart s
IsMark (End e) = IsEnd e

abbrev pub mark_text : WrittenMark → List ℕ
mark_text (Instruction body) = codes "<?" ++ (body ++ codes "?>")
mark_text (Comment body) = codes "<!--" ++ (body ++ codes "-->")
mark_text (Data body) = codes "<![CDATA[" ++ (body ++ codes "]]>")
mark_text (Start s) = start_text s
mark_text (End e) = end_text e

-- what is read of a mark
abbrev pub start_of : WrittenStart → StartTag
start_of s = record { name = s.name; attrs = map attr_of s.attrs; closes = s.closes }

abbrev pub mark_of_written : WrittenMark → Mark
mark_of_written (Instruction body) = Mark.Passed
mark_of_written (Comment body) = Mark.Passed
mark_of_written (Data body) = Mark.Data
mark_of_written (Start s) = Mark.Start (start_of s)
mark_of_written (End e) = Mark.End e.name

-- a mark, and the text before it
pub record Part : Type 0 where
  pub before : List ℕ
  pub mark : WrittenMark

pub record IsPart (p : Part) : Type 0 where
  pub before : AllPass is_text_byte p.before
  pub mark : IsMark p.mark

abbrev pub part_text : Part → List ℕ
part_text p = p.before ++ mark_text p.mark

-- the open elements after a start tag at a place, the innermost first
abbrev pub open_after : WrittenStart → ℕ → List OpenElement → List OpenElement
open_after s place elements = if s.closes then elements else record { name = s.name; place = place } ∷ elements

-- text may stand in these open elements: outside the outermost one it is white space
abbrev pub MayStand : List OpenElement → List ℕ → Type 0
MayStand elements text = (elements ≢ []) ⊎ IsSpace text

-- a start tag may stand where so many stood before it in these open elements
pub record MayStart (count : ℕ) (elements : List OpenElement) (s : WrittenStart) : Type 0 where
  pub inside : (count ≡ 0) ⊎ (elements ≢ [])
  pub distinct : AllPairs (λ a b. a.name ≢ b.name) s.attrs
  pub depth : length elements < MAX_DEPTH
  pub room : count < MAX_TAGS

-- an end tag closes the innermost open element
abbrev pub Closes : List OpenElement → List ℕ → Type 0
Closes [] name = ⊥
Closes (innermost ∷ others) name = name ≡ innermost.name

-- a mark may stand in these open elements, after so many start tags
abbrev pub MayFollow : ℕ → List OpenElement → WrittenMark → Type 0
MayFollow count elements (Instruction body) = Unit {0}
MayFollow count elements (Comment body) = Unit {0}
MayFollow count elements (Data body) = elements ≢ []
MayFollow count elements (Start s) = MayStart count elements s
MayFollow count elements (End e) = Closes elements e.name

abbrev pub count_after : ℕ → WrittenMark → ℕ
count_after count (Start s) = count + 1
count_after count mark = count

abbrev pub others_of : List OpenElement → List OpenElement
others_of [] = []
others_of (innermost ∷ others) = others

-- the open elements after a mark whose < is at a place
abbrev pub elements_after : ℕ → List OpenElement → WrittenMark → List OpenElement
elements_after place elements (Start s) = open_after s place elements
elements_after place elements (End e) = others_of elements
elements_after place elements mark = elements

-- parts may follow each other from a place, in these open elements and after so many start tags
abbrev pub Nest : ℕ → ℕ → List OpenElement → List Part → Type 0
Nest place count elements [] = Unit {0}
Nest place count elements (p ∷ parts) =
    MayStand elements p.before × MayFollow count elements p.mark
    × Nest (place + length (part_text p)) (count_after count p.mark) (elements_after (place + length p.before) elements p.mark) parts

-- the open elements after parts
abbrev pub left_open : ℕ → List OpenElement → List Part → List OpenElement
left_open place elements [] = elements
left_open place elements (p ∷ parts) = left_open (place + length (part_text p)) (elements_after (place + length p.before) elements p.mark) parts

-- the tag of a mark whose < is at a place, in so many open elements
abbrev pub tags_of_mark : ℕ → ℕ → WrittenMark → List Tag
tags_of_mark place depth (Start s) = record { name = s.name; place = place; depth = depth + 1; attrs = map attr_of s.attrs } ∷ []
tags_of_mark place depth mark = []

-- the tags of parts
abbrev pub tags_in : ℕ → List OpenElement → List Part → List Tag
tags_in place elements [] = []
tags_in place elements (p ∷ parts) =
    tags_of_mark (place + length p.before) (length elements) p.mark
    ++ tags_in (place + length (part_text p)) (elements_after (place + length p.before) elements p.mark) parts

-- the bytes are UTF-8: an optional byte order mark, parts that nest, and white space; one element is outermost and each is closed; and
-- these are their tags
pub record Accepts (bytes : List ℕ) (tags : List Tag) : Type 0 where
  pub utf8 : IsUtf8 bytes
  pub lead : List ℕ
  pub parts : List Part
  pub last : List ℕ
  pub lead_is : (lead ≡ []) ⊎ (lead ≡ order_mark)
  pub are_parts : AllByRecursion IsPart parts
  pub nest : Nest (length lead) 0 [] parts
  pub closed : left_open (length lead) [] parts ≡ []
  pub last_space : IsSpace last
  pub text : bytes ≡ lead ++ (flat_map part_text parts ++ last)
  pub tags_are : tags ≡ tags_in (length lead) [] parts
  pub some : tags ≢ []
