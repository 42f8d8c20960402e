-- The parts of a plain line, one by one.
use Rattle.std.proofs.Common.{◌≡◌, ◌<◌, ◌+◌, ◌-◌, ◌∙◌, ℕ, List, [], ◌∷◌, length, drop, get_or, Some, true, ap, sym, arith, length-drop, inl, inr}
use Rattle.std.proofs.lemmas.Bool.{cases_lt}
use Rattle.std.proofs.lemmas.List.{drop_more}
use Rattle.rb_tree.specs.State.{Row}
use Rattle.rb_rows.specs.declared.header.Target.{Target}
use Rattle.rb_rows.specs.Plain.{is_plain, parts_of}
use Rattle.rb_rows.specs.Row.{row_told, row_of}
use Rattle.rb_rows.proofs.PlainLines.{plain_line_splits}

-- what a cut of the first part gives
pub record FirstPart (rest field after : List ℕ) : Type 0 where
  pub more : 1 < length (parts_of rest) → parts_of rest ≡ field ∷ parts_of after
  pub last : length (parts_of rest) ≡ 1 → parts_of rest ≡ field ∷ []

module _ (all : List (List ℕ)) (index : ℕ) (within : index < length all) (field : List ℕ) (others : List (List ℕ)) where
  part_first : drop index all ≡ field ∷ others → get_or all index [] ≡ field
  part_first is =
      let same : field ∷ others ≡ get_or all index [] ∷ drop (index + 1) all = sym is ∙ drop_more all index [] within in
      cc

  parts_behind : drop index all ≡ field ∷ others → others ≡ drop (index + 1) all
  parts_behind is =
      let same : field ∷ others ≡ get_or all index [] ∷ drop (index + 1) all = sym is ∙ drop_more all index [] within in
      cc

-- the next part, and those behind it
module _ (line rest field after : List ℕ) (index : ℕ) (within : index < length (parts_of line)) (left : parts_of rest ≡ drop index (parts_of line)) (cut : FirstPart rest field after) where
  left_count : length (parts_of rest) ≡ length (parts_of line) - index
  left_count = ap length left ∙ length-drop index (parts_of line)

  pub part_here : get_or (parts_of line) index [] ≡ field
  part_here = elim (cases_lt 1 (length (parts_of rest))) [
    | inl two ↦ part_first (parts_of line) index within field (parts_of after) (sym left ∙ cut.more two)
    | inr one ↦ let count = left_count in part_first (parts_of line) index within field [] (sym left ∙ cut.last (omega arith))
  ]

  pub parts_left : index + 1 < length (parts_of line) → parts_of after ≡ drop (index + 1) (parts_of line)
  parts_left more = let count = left_count in parts_behind (parts_of line) index within field (parts_of after) (sym left ∙ cut.more (omega arith))

-- the row of a plain line is that of its parts
pub row_of_plain : (targets : List Target) (line : List ℕ) (row : Row) → is_plain line ≡ true → row_of targets line row ≡ row_told targets (Some (parts_of line)) row
unfolding row_of
row_of_plain targets line row plain = ap (λ found. row_told targets found row) (plain_line_splits line plain)
