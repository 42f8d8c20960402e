-- How the value of an attribute is read: its references are replaced.
use Rattle.std.specs.Prelude.{ℕ, zero, suc, List, [], ◌∷◌, ◌++◌, length, ◌&&◌, ◌==◌, nat_lt, codes, Option, None, Some, if◌then◌else◌}
use Rattle.std.specs.Char.{encode_utf8, is_digit}
use Rattle.std.specs.Str.{bytes_eq}
use Rattle.std.specs.Str.Parse.{digits_value}
use Rattle.std.specs.List.{take_while, list_all}
use Rattle.rb_tags.specs.Bytes.{is_plain_byte, is_reference_byte, past, after_front, if_more}
use lib.Utf8.{scalar}

infixl 10 ◌>?=◌
abbrev pub ◌>?=◌ : {A B : Type 0} → Option A → (A → Option B) → Option B
(Some x) >?= f = f x
None >?= f = None

-- the character of a number in digits
unfoldable pub character_of : ℕ → List ℕ → Option (List ℕ)
character_of radix digits = if nat_lt 0 (length digits) && list_all (λ b. is_digit b radix) digits && scalar (digits_value radix digits) then Some (encode_utf8 (digits_value radix digits)) else None

-- the character of a number as it is written between &# and ;
unfoldable pub number_of : List ℕ → Option (List ℕ)
number_of [] = None
number_of (b ∷ bs) = if b == 120 then character_of 16 bs else character_of 10 (b ∷ bs)

-- the character of a name
unfoldable pub entity_of : List ℕ → Option (List ℕ)
entity_of name =
    if bytes_eq name (codes "amp") then Some (38 ∷ []) else
    if bytes_eq name (codes "lt") then Some (60 ∷ []) else
    if bytes_eq name (codes "gt") then Some (62 ∷ []) else
    if bytes_eq name (codes "quot") then Some (34 ∷ []) else
    if bytes_eq name (codes "apos") then Some (39 ∷ []) else None

-- what the reference says that is written between & and ;
unfoldable pub reference_of : List ℕ → Option (List ℕ)
reference_of [] = None
reference_of (b ∷ bs) = if b == 35 then number_of bs else entity_of (b ∷ bs)

-- a reference at the front, from after its &: what it says, and the bytes after its ;
unfoldable pub reference_at : List ℕ → Option (List ℕ × List ℕ)
reference_at bytes =
    after_front (59 ∷ []) (past is_reference_byte bytes) >?= λ rest.
    reference_of (take_while is_reference_byte bytes) >?= λ value. Some (value, rest)

-- what a text with fewer references than so many says
unfoldable pub value_within : ℕ → List ℕ → Option (List ℕ)
value_within zero text = None
value_within (suc n) text =
    if_more (past is_plain_byte text) (Some text) λ bytes.
    reference_at bytes >?= λ read. value_within n read.1 >?= λ others. Some (take_while is_plain_byte text ++ (read.0 ++ others))

-- what a text says
unfoldable pub value_of : List ℕ → Option (List ℕ)
value_of text = value_within (suc (length text)) text
