-- The values of attributes: how they are written, and what they say.
use Rattle.std.specs.Prelude.{◌≡◌, ◌≢◌, ℕ, List, [], ◌∷◌, ◌++◌, codes}
use Rattle.std.specs.List.{AllByRecursion, flat_map}
use Rattle.std.specs.Char.{IsScalar, encode_utf8}
use Rattle.std.specs.Str.Parse.{digits_value, IsNumeral}

-- the characters that have a reference of a name
pub data Entity : Type 0 where
  Ampersand : Entity
  Less : Entity
  Greater : Entity
  Quote : Entity
  Apostrophe : Entity

abbrev pub entity_name : Entity → List ℕ
entity_name Ampersand = codes "amp"
entity_name Less = codes "lt"
entity_name Greater = codes "gt"
entity_name Quote = codes "quot"
entity_name Apostrophe = codes "apos"

abbrev pub entity_byte : Entity → ℕ
entity_byte Ampersand = 38
entity_byte Less = 60
entity_byte Greater = 62
entity_byte Quote = 34
entity_byte Apostrophe = 39

-- a byte that stands for itself, or a reference: by name, or by the number of a character, in decimal or hexadecimal digits
pub data Piece : Type 0 where
  Plain : ℕ → Piece
  Named : Entity → Piece
  Decimal : List ℕ → Piece
  Hexadecimal : List ℕ → Piece

-- one or more digits of the radix, which write the number of a Unicode scalar value
pub record IsCharacter (radix : ℕ) (digits : List ℕ) : Type 0 where
  pub numeral : IsNumeral radix digits
  pub scalar : IsScalar (digits_value radix digits)

abbrev pub IsPiece : Piece → Type 0
IsPiece (Plain b) = b ≢ 38
IsPiece (Named e) = Unit {0}
IsPiece (Decimal digits) = IsCharacter 10 digits
IsPiece (Hexadecimal digits) = IsCharacter 16 digits

abbrev pub piece_text : Piece → List ℕ
piece_text (Plain b) = b ∷ []
piece_text (Named e) = codes "&" ++ (entity_name e ++ codes ";")
piece_text (Decimal digits) = codes "&#" ++ (digits ++ codes ";")
piece_text (Hexadecimal digits) = codes "&#x" ++ (digits ++ codes ";")

abbrev pub piece_value : Piece → List ℕ
piece_value (Plain b) = b ∷ []
piece_value (Named e) = entity_byte e ∷ []
piece_value (Decimal digits) = encode_utf8 (digits_value 10 digits)
piece_value (Hexadecimal digits) = encode_utf8 (digits_value 16 digits)

-- the text is written piece by piece, and says this value
pub record SaysValue (text value : List ℕ) : Type 0 where
  pub pieces : List Piece
  pub are_pieces : AllByRecursion IsPiece pieces
  pub text_is : text ≡ flat_map piece_text pieces
  pub value_is : value ≡ flat_map piece_value pieces
