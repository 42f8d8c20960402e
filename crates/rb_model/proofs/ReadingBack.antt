-- Lines, read back.
use Rattle.std.proofs.Common.{◌≡◌, ◌≤◌, ◌+◌, ℕ, zero, suc, List, [], ◌∷◌, ◌++◌, length, map, refl, ap, arith}
use Rattle.std.proofs.lemmas.List.{length-append}
use Rattle.csv.specs.Machine.{next_record}
use Rattle.csv.specs.Reading.{default_config, records, records_from}
use Rattle.csv.specs.Writing.{default_writer, read_back, row_text, row_body, is_blank}
use Rattle.std.specs.Prelude.{if◌then◌else◌}
use Rattle.csv.specs.declared.parser.State.TheVariants as st
use Rattle.csv.proofs.RoundTrip.{read-write}
use Rattle.rb_model.specs.Model.{lines_text}

none_left : (n : ℕ) → records_from default_config n st.StartRecord [] ≡ []
unfolding records_from next_record
none_left zero = refl
none_left (suc n) = refl

all_read : (n : ℕ) (lines : List (List (List ℕ))) → length lines ≤ n → records_from default_config n st.StartRecord (lines_text lines) ≡ map read_back lines
unfolding records_from
all_read n [] h = none_left n
all_read zero (line ∷ lines) h = absurd (omega arith)
all_read (suc n) (line ∷ lines) h = rw (read-write line (lines_text lines)) (ap (λ rest. read_back line ∷ rest) (all_read n lines (omega arith)))

some_text : (line : List (List ℕ)) → 1 ≤ length (row_text default_writer line)
some_text line =
    let blank : List ℕ = if is_blank default_writer line then 34 ∷ 34 ∷ [] else [] in
    omega (arith, length-append (row_body default_writer line) (blank ++ 10 ∷ []), length-append blank (10 ∷ []))

few_lines : (lines : List (List (List ℕ))) → length lines ≤ length (lines_text lines)
few_lines [] = omega arith
few_lines (line ∷ lines) = omega (arith, some_text line, few_lines lines, length-append (row_text default_writer line) (lines_text lines))

pub text_read : (lines : List (List (List ℕ))) → records default_config (lines_text lines) ≡ map read_back lines
text_read lines = all_read (length (lines_text lines) + 1) lines (omega (arith, few_lines lines))
