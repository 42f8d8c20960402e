-- Where no mark stands behind a <, and of what kind the fault is.
use Rattle.std.specs.Prelude.{◌≡◌, ◌≢◌, ◌⊎◌, ℕ, Bool, true, not, ◌&&◌, ◌==◌, List, [], ◌∷◌, ◌++◌, codes}
use Rattle.std.specs.List.{AllPass, AllByRecursion, flat_map}
use Rattle.rb_tags.specs.declared.read.TagKind.{TagKind}
use Rattle.rb_tags.specs.declared.read.TagKind.TheVariants as kind
use Rattle.rb_tags.specs.Bytes.{is_quote}
use Rattle.rb_tags.specs.Grammar.{WrittenMark, IsMark, mark_text}

-- the bytes begin with a text
pub record Begins (front bytes : List ℕ) : Type 0 where
  pub rest : List ℕ
  pub text : bytes ≡ front ++ rest

-- a text stands nowhere in the bytes
abbrev pub Lacks : List ℕ → List ℕ → Type 0
Lacks part bytes = (front back : List ℕ) → bytes ≢ front ++ (part ++ back)

-- the opening bytes of a mark without its closing ones behind them
pub record Opened (opening closing bytes : List ℕ) : Type 0 where
  pub rest : List ℕ
  pub text : bytes ≡ opening ++ rest
  pub never : Lacks closing rest

-- a tag: neither an instruction, a comment, a section of data nor a document type
pub record BeginsTag (bytes : List ℕ) : Type 0 where
  pub instruction : Begins (codes "?") bytes → ⊥
  pub comment : Begins (codes "!--") bytes → ⊥
  pub section : Begins (codes "![CDATA[") bytes → ⊥
  pub doctype : Begins (codes "!DOCTYPE") bytes → ⊥

-- a part of a tag: a byte for itself, or a quoted part, which ends at the next byte of the kind that it begins with
pub data TagPart : Type 0 where
  Byte : ℕ → TagPart
  Quoted : ℕ → List ℕ → TagPart

-- other than > " '
abbrev pub is_tag_byte : ℕ → Bool
is_tag_byte b = not (b == 62) && not (is_quote b)

abbrev pub IsTagPart : TagPart → Type 0
IsTagPart (Byte b) = is_tag_byte b ≡ true
IsTagPart (Quoted quote inside) = (is_quote quote ≡ true) × AllPass (λ b. not (b == quote)) inside

abbrev pub tag_part_text : TagPart → List ℕ
tag_part_text (Byte b) = b ∷ []
tag_part_text (Quoted quote inside) = quote ∷ (inside ++ quote ∷ [])

-- a > stands outside the quoted parts
pub record Ends (bytes : List ℕ) : Type 0 where
  pub parts : List TagPart
  pub rest : List ℕ
  pub are_parts : AllByRecursion IsTagPart parts
  pub text : bytes ≡ flat_map tag_part_text parts ++ (codes ">" ++ rest)

-- a tag that never ends
pub record NeverEnds (bytes : List ℕ) : Type 0 where
  pub tag : BeginsTag bytes
  pub never : Ends bytes → ⊥

-- a tag that ends, but is no mark
pub record NeverFits (bytes : List ℕ) : Type 0 where
  pub tag : BeginsTag bytes
  pub ends : Ends bytes
  pub never : (w : WrittenMark) (rest : List ℕ) → IsMark w → codes "<" ++ bytes ≢ mark_text w ++ rest

-- a mark that does not close
abbrev pub IsUnclosed : List ℕ → Type 0
IsUnclosed bytes =
    Opened (codes "?") (codes "?>") bytes
    ⊎ (Opened (codes "!--") (codes "-->") bytes
    ⊎ (Opened (codes "![CDATA[") (codes "]]>") bytes
    ⊎ NeverEnds bytes))

-- the fault of what stands behind a <
abbrev pub IsBadMark : List ℕ → TagKind → Type 0
IsBadMark bytes kind.Doctype = Begins (codes "!DOCTYPE") bytes
IsBadMark bytes kind.Unclosed = IsUnclosed bytes
IsBadMark bytes kind.BadMark = NeverFits bytes
IsBadMark bytes other = ⊥
