-- What was read of a file so far, and how what follows changes it.
use Rattle.std.specs.Prelude.{ℕ, ◌+◌, Bool, true, List, [], ◌∷◌, ◌++◌, length, not, ◌&&◌, ◌==◌, nat_lt, nat_le, Result, Ok, Err, if◌then◌else◌}
use Rattle.std.specs.List.{take_while, list_any, list_all}
use Rattle.std.specs.Str.{bytes_eq}
use Rattle.rb_tags.specs.declared.read.TagFault.{TagFault}
use Rattle.rb_tags.specs.declared.read.TagKind.{TagKind}
use Rattle.rb_tags.specs.declared.read.TagKind.TheVariants.{Unclosed, BadMark, Twice, Depth, TooMany, Mismatch}
use Rattle.rb_tags.specs.declared.tag.Attr.{Attr}
use Rattle.rb_tags.specs.declared.tag.Tag.{Tag}
use Rattle.rb_tags.specs.declared.tag.TheConstants.{MAX_DEPTH, MAX_TAGS}
use Rattle.rb_tags.specs.declared.marks.StartTag.{StartTag}
pub use Rattle.rb_tags.specs.declared.reader.OpenElement.{OpenElement}
use Rattle.rb_tags.specs.Faults.{fault_at}
use Rattle.rb_tags.specs.Bytes.{is_space, is_text_byte, past}
use Rattle.rb_tags.specs.Marks.{Mark, mark_at}
use Rattle.rb_result.specs.Steps.{◌>>=◌, placed}

-- the start tags so far, and the open elements, the innermost first
pub record Seen : Type 0 where
  pub tags : List Tag
  pub open_elements : List OpenElement

abbrev pub nothing_seen : Seen
nothing_seen = record { tags = []; open_elements = [] }

abbrev pub has_name : List ℕ → List Attr → Bool
has_name name attrs = list_any (λ attr. bytes_eq attr.name name) attrs

-- no two attributes have one name
abbrev pub are_distinct : List Attr → Bool
are_distinct [] = true
are_distinct (attr ∷ attrs) = not (has_name attr.name attrs) && are_distinct attrs

-- how many different names attributes have
abbrev pub name_count : List Attr → ℕ
name_count [] = 0
name_count (attr ∷ attrs) = name_count attrs + (if has_name attr.name attrs then 0 else 1)

abbrev pub tag_of : StartTag → ℕ → ℕ → Tag
tag_of start place depth = record { name = start.name; place = place; depth = depth; attrs = start.attrs }

-- with the tag of a start tag whose < is at a place
abbrev pub with_tag : Seen → ℕ → StartTag → Seen
with_tag seen place start = record seen { tags = seen.tags ++ tag_of start place (length seen.open_elements + 1) ∷ [] }

-- in the element of a start tag, if it does not close itself
abbrev pub entered : Seen → ℕ → StartTag → Seen
entered seen place start = if start.closes then seen else record seen { open_elements = record { name = start.name; place = place } ∷ seen.open_elements }

-- whether a start tag may stand here, whose attributes have different names or not
unfoldable pub may_start : Seen → Bool → Result (Unit {0}) TagKind
may_start seen distinct =
    if length seen.open_elements == 0 && nat_lt 0 (length seen.tags) then Err BadMark else
    if not distinct then Err Twice else
    if nat_le MAX_DEPTH (length seen.open_elements) then Err Depth else
    if nat_le MAX_TAGS (length seen.tags) then Err TooMany else
    Ok tt

-- after a start tag whose < is at a place
unfoldable pub started : Seen → ℕ → StartTag → Result Seen TagKind
started seen place start = may_start seen (are_distinct start.attrs) >>= λ _. Ok (entered (with_tag seen place start) place start)

abbrev pub ended_in : List OpenElement → List ℕ → Result (List OpenElement) TagKind
ended_in [] name = Err Mismatch
ended_in (innermost ∷ others) name = if bytes_eq innermost.name name then Ok others else Err Mismatch

-- after an end tag
unfoldable pub ended : Seen → List ℕ → Result Seen TagKind
ended seen name = ended_in seen.open_elements name >>= λ others. Ok (record seen { open_elements = others })

-- after a section of data, which stands only inside an element
unfoldable pub with_data : Seen → Result Seen TagKind
with_data seen = if length seen.open_elements == 0 then Err BadMark else Ok seen

-- after a mark whose < is at a place
abbrev pub marked : Seen → ℕ → Mark → Result Seen TagKind
marked seen place Mark.Passed = Ok seen
marked seen place Mark.Data = with_data seen
marked seen place (Mark.Start start) = started seen place start
marked seen place (Mark.End name) = ended seen name

-- after the mark at the front, from after its <, which is at a place, or the kind of its fault
unfoldable pub marked_at : Seen → ℕ → List ℕ → Result (Seen × List ℕ) TagKind
marked_at seen place bytes = mark_at bytes >>= λ mark. marked seen place mark.0 >>= λ now. Ok (now, mark.1)

unfoldable pub read_mark : Seen → ℕ → List ℕ → Result (Seen × List ℕ) TagFault
read_mark seen place bytes = placed fault_at place (marked_at seen place bytes)

-- text before a mark: outside the outermost element it is white space
unfoldable pub read_text : Seen → ℕ → List ℕ → Result (List ℕ) TagFault
read_text seen place bytes =
    let text = take_while is_text_byte bytes in
    if length seen.open_elements == 0 && not (list_all is_space text)
    then Err (fault_at BadMark (place + length (take_while is_space text)))
    else Ok (past is_text_byte bytes)

abbrev pub finished_in : List OpenElement → List Tag → ℕ → Result (List Tag) TagFault
finished_in (innermost ∷ others) tags size = Err (fault_at Unclosed innermost.place)
finished_in [] [] size = Err (fault_at Unclosed size)
finished_in [] (tag ∷ tags) size = Ok (tag ∷ tags)

-- the tags at the end of a file of a size, where an element was read and each is closed
unfoldable pub finished : Seen → ℕ → Result (List Tag) TagFault
finished seen size = finished_in seen.open_elements seen.tags size
