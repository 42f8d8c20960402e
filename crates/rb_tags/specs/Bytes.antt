-- Classes of bytes, and runs of them at the front.
use Rattle.std.specs.Prelude.{ℕ, Bool, List, [], ◌∷◌, drop, not, ◌&&◌, ◌||◌, ◌==◌, Option, None, Some, if◌then◌else◌}
use Rattle.std.specs.List.{prefix_len}
use Rattle.std.specs.Option.{option_or}
use Rattle.rb_tags.specs.declared.bytes.Quote.{Quote}
use Rattle.rb_tags.specs.declared.bytes.Quote.TheVariants.{Double, Single}
use Rattle.rb_tags.specs.declared.bytes.Class.{Class}
use Rattle.rb_tags.specs.declared.bytes.Class.TheVariants.{Space, Name, Value, Text, Reference}

-- a space, a tab, a CR or an LF
unfoldable pub is_space : ℕ → Bool
is_space b = b == 32 || b == 9 || b == 13 || b == 10

-- other than white space and / > = < " ' &
unfoldable pub is_name_byte : ℕ → Bool
is_name_byte b = not (is_space b) && not (b == 47) && not (b == 62) && not (b == 61) && not (b == 60) && not (b == 34) && not (b == 39) && not (b == 38)

-- what may stand in a value between two quotes of this kind: other than < and the quote
unfoldable pub is_value_byte : ℕ → ℕ → Bool
is_value_byte quote b = not (b == quote) && not (b == 60)

-- " or '
unfoldable pub is_quote : ℕ → Bool
is_quote b = b == 34 || b == 39

-- other than <
unfoldable pub is_text_byte : ℕ → Bool
is_text_byte b = not (b == 60)

-- other than &
unfoldable pub is_plain_byte : ℕ → Bool
is_plain_byte b = not (b == 38)

-- other than ;
unfoldable pub is_reference_byte : ℕ → Bool
is_reference_byte b = not (b == 59)

abbrev pub quote_byte : Quote → ℕ
quote_byte Double = 34
quote_byte Single = 39

-- the test of a class
abbrev pub has_of : Class → ℕ → Bool
has_of Space = is_space
has_of Name = is_name_byte
has_of (Value quote) = is_value_byte (quote_byte quote)
has_of Text = is_text_byte
has_of Reference = is_reference_byte

-- the bytes after the longest front of bytes that pass
unfoldable pub past : (ℕ → Bool) → List ℕ → List ℕ
past p bytes = drop (prefix_len p bytes) bytes

-- the bytes after a text that stands at the front
unfoldable pub after_front : List ℕ → List ℕ → Option (List ℕ)
after_front [] bytes = Some bytes
after_front (c ∷ cs) [] = None
after_front (c ∷ cs) (b ∷ bs) = if b == c then after_front cs bs else None

-- the bytes after the first place where a text stands
unfoldable pub after_first : List ℕ → List ℕ → Option (List ℕ)
after_first closing [] = after_front closing []
after_first closing (b ∷ bs) = option_or (after_front closing (b ∷ bs)) (after_first closing bs)

-- what follows from the bytes behind the first one, or what stands in its place where there is none
abbrev pub if_more : {A : Type 0} → List ℕ → A → (List ℕ → A) → A
if_more [] other f = other
if_more (b ∷ bs) other f = f bs
