-- How marks are read, each from after its <: what is read, and the bytes after it.
use Rattle.std.specs.Prelude.{ℕ, zero, suc, Bool, true, false, List, [], ◌∷◌, length, take, drop, not, ◌&&◌, ◌||◌, ◌==◌, codes, Option, None, Some, Result, Ok, Err, if◌then◌else◌}
use Rattle.std.specs.List.{take_while}
use Rattle.rb_tags.specs.declared.read.TagKind.{TagKind}
use Rattle.rb_tags.specs.declared.read.TagKind.TheVariants.{Doctype, Unclosed, BadMark}
use Rattle.rb_tags.specs.declared.tag.Attr.{Attr}
use Rattle.rb_tags.specs.declared.marks.StartTag.{StartTag}
use Rattle.rb_tags.specs.Bytes.{is_space, is_name_byte, is_value_byte, is_quote, past, after_front, after_first}
use Rattle.rb_tags.specs.References.{value_of, ◌>?=◌}
use Rattle.rb_result.specs.Steps.{◌>>=◌}
use Rattle.std.specs.Option.{ok_or}

-- some bytes, the first of which is neither ! nor ?
abbrev pub begins_name : List ℕ → Bool
begins_name [] = false
begins_name (b ∷ bs) = not (b == 33 || b == 63)

unfoldable pub name_at : List ℕ → Option (List ℕ × List ℕ)
name_at bytes = let name = take_while is_name_byte bytes in if begins_name name then Some (name, past is_name_byte bytes) else None

-- the byte of a quote, and the bytes after it
unfoldable pub opening_at : List ℕ → Option (ℕ × List ℕ)
opening_at [] = None
opening_at (b ∷ bs) = if is_quote b then Some (b, bs) else None

-- a value in " or '
unfoldable pub quoted_at : List ℕ → Option (List ℕ × List ℕ)
quoted_at bytes =
    opening_at bytes >?= λ opened.
    after_front (opened.0 ∷ []) (past (is_value_byte opened.0) opened.1) >?= λ rest.
    value_of (take_while (is_value_byte opened.0) opened.1) >?= λ value.
    Some (value, rest)

-- a name, = in white space, and a value in quotes
unfoldable pub attr_at : List ℕ → Option (Attr × List ℕ)
attr_at bytes =
    name_at bytes >?= λ name.
    after_front (codes "=") (past is_space name.1) >?= λ equals.
    quoted_at (past is_space equals) >?= λ value.
    Some (record { name = name.0; value = value.0 }, value.1)

abbrev pub is_nonempty : List ℕ → Bool
is_nonempty [] = false
is_nonempty (b ∷ bs) = true

-- white space, and then a byte of a name
unfoldable pub attr_follows : List ℕ → Bool
attr_follows bytes = is_nonempty (take_while is_space bytes) && is_nonempty (take_while is_name_byte (past is_space bytes))

-- at most so many attributes, each after white space
unfoldable pub attrs_at : ℕ → List ℕ → Option (List Attr × List ℕ)
attrs_at zero bytes = Some ([], bytes)
attrs_at (suc n) bytes = if attr_follows bytes then (attr_at (past is_space bytes) >?= λ first. attrs_at n first.1 >?= λ others. Some (first.0 ∷ others.0, others.1)) else Some ([], bytes)

-- whether a tag closes itself, from what stands in it behind its attributes
unfoldable pub ending_of : List ℕ → Option Bool
ending_of [] = Some false
ending_of (b ∷ bs) = if b == 47 && not (is_nonempty bs) then Some true else None

-- a start tag, from all that stands between < and >
unfoldable pub start_in : List ℕ → Option StartTag
start_in inside =
    name_at inside >?= λ name.
    attrs_at (length name.1) name.1 >?= λ attrs.
    ending_of (past is_space attrs.1) >?= λ closes.
    Some (record { name = name.0; attrs = attrs.0; closes = closes })

-- the name of an end tag, from all that stands between </ and >
unfoldable pub end_in : List ℕ → Option (List ℕ)
end_in inside = name_at inside >?= λ name. if is_nonempty (past is_space name.1) then None else Some name.0

-- a mark: an instruction or a comment, which is passed over, a section of data, a start tag, or an end tag of a name
pub data Mark : Type 0 where
  Passed : Mark
  Data : Mark
  Start : StartTag → Mark
  End : List ℕ → Mark

abbrev pub if_some : {A B : Type 0} → Option A → (A → B) → B → B
if_some (Some x) f other = f x
if_some None f other = other

-- what follows a text at the front, or what stands in its place where it is not there
abbrev pub if_front : {A : Type 0} → List ℕ → List ℕ → (List ℕ → A) → A → A
if_front front bytes f other = if_some (after_front front bytes) f other

-- a tag, from all that stands between < and >
unfoldable pub tag_in : List ℕ → Option Mark
tag_in inside = if_front (codes "/") inside (λ rest. end_in rest >?= λ name. Some (End name)) (start_in inside >?= λ start. Some (Start start))

-- the kind of the quoted part that a byte stands in, from that of the byte before it: a quoted part begins at " or ' and ends at the
-- next byte of that kind
abbrev pub quote_after : Option ℕ → ℕ → Option ℕ
quote_after None b = if is_quote b then Some b else None
quote_after (Some quote) b = if b == quote then None else Some quote

-- a > outside quoted parts
abbrev pub ends_tag : Option ℕ → ℕ → Bool
ends_tag None b = b == 62
ends_tag (Some quote) b = false

-- how many bytes stand before the first > outside quoted parts
unfoldable pub closing_at : Option ℕ → List ℕ → Option ℕ
closing_at quote [] = None
closing_at quote (b ∷ bs) = if ends_tag quote b then Some 0 else (closing_at (quote_after quote b) bs >?= λ n. Some (suc n))

unfoldable pub tag_at : List ℕ → Result (Mark × List ℕ) TagKind
tag_at bytes = do
  end ← ok_or (closing_at None bytes) Unclosed
  mark ← ok_or (tag_in (take end bytes)) BadMark
  Ok (mark, drop (suc end) bytes)

-- a mark that runs to its closing bytes
abbrev pub run_to : List ℕ → Mark → List ℕ → Result (Mark × List ℕ) TagKind
run_to closing mark bytes = ok_or (after_first closing bytes) Unclosed >>= λ rest. Ok (mark, rest)

-- the mark at the front, from after its <
unfoldable pub mark_at : List ℕ → Result (Mark × List ℕ) TagKind
mark_at bytes =
    if_front (codes "?") bytes (run_to (codes "?>") Passed)
    (if_front (codes "!--") bytes (run_to (codes "-->") Passed)
    (if_front (codes "![CDATA[") bytes (run_to (codes "]]>") Data)
    (if_front (codes "!DOCTYPE") bytes (λ _. Err Doctype) (tag_at bytes))))
