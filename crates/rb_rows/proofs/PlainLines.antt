-- The fields of a plain line.
use Rattle.std.proofs.Common.{◌≡◌, ◌≤◌, ◌+◌, ◌++◌, ◌&&◌, ◌==◌, ◌∙◌, ℕ, List, [], ◌∷◌, length, Option, None, Some, Bool, true, false, not, refl, ap, sym, arith, append_assoc, count_by, get_or, inl, inr}
use Rattle.std.specs.Prelude.{is_some, ◌||◌}
use Rattle.std.specs.List.{list_any, onto_first}
use Rattle.std.proofs.lemmas.Bool.{cases_Bool}
use Rattle.std.proofs.lemmas.List.{get_or_default}
use Rattle.std.proofs.lemmas.List.Folds.{list_any_none, list_any_at}
use Rattle.std.proofs.lemmas.List.Sums.{count_by-le-length}
use Rattle.std.proofs.lemmas.List.Splits.{length-slice_split}
use Rattle.memchr.specs.Find.{IsFirstByte, is_byte, is_byte3, places}
use Rattle.memchr.proofs.lemmas.CallerLemmas.{length-places}
use Rattle.csv.proofs.RoundTrip.{record-same, start-same}
use Rattle.csv.specs.Machine.{next_record}
use Rattle.csv.specs.Reading.{default_config, strip_bom}
use Rattle.csv.specs.declared.parser.State.TheVariants as st
use Rattle.rb_record.specs.Record.{fields_in}
use Rattle.rb_rows.specs.Plain.{is_mark, is_comma, is_plain, parts_of}
use Rattle.rb_record.proofs.Records.{whole_read}

-- ---- the test of a line
clear : (b : Bool) → ¬ (b ≡ true) → b ≡ false
clear true never = absurd (never refl)
clear false never = refl

pub mark_found : (line : List ℕ) (r : Option ℕ) → IsFirstByte (is_byte3 34 13 10) line r → is_some r ≡ list_any is_mark line
mark_found line None none = sym (list_any_none is_mark line (λ k d within. rw (get_or_default line k d 0 within) (clear (is_mark (get_or line k 0)) (none k (omega arith) within))))
mark_found line (Some k) found = sym (list_any_at is_mark line k 0 found.0.high found.1)

pub commas_counted : (line : List ℕ) → length (places (is_byte 44) line) ≡ count_by is_comma line
commas_counted line = length-places (is_byte 44) line

pub parts_counted : (line : List ℕ) → length (parts_of line) ≡ count_by is_comma line + 1
parts_counted line = length-slice_split is_comma line

pub commas_few : (line : List ℕ) → count_by is_comma line ≤ length line
commas_few line = count_by-le-length is_comma line

-- ---- how a plain line is read
-- the parts, the first of which has these bytes in front
abbrev behind : List ℕ → List (List ℕ) → List (List ℕ)
behind [] parts = parts
behind (byte ∷ bytes) parts = onto_first byte (behind bytes parts)

behind_bytes : (bytes : List ℕ) (parts : List (List ℕ)) → behind bytes ([] ∷ parts) ≡ bytes ∷ parts
behind_bytes [] parts = refl
behind_bytes (byte ∷ bytes) parts = rw (behind_bytes bytes parts)

behind_more : (bytes : List ℕ) (byte : ℕ) (parts : List (List ℕ)) → behind (bytes ++ byte ∷ []) parts ≡ behind bytes (onto_first byte parts)
behind_more [] byte parts = refl
behind_more (first ∷ bytes) byte parts = ap (onto_first first) (behind_more bytes byte parts)

-- a byte that is no mark
record NoMark (byte : ℕ) : Type 0 where
  pub quote : (byte == 34) ≡ false
  pub return : (byte == 13) ≡ false
  pub feed : (byte == 10) ≡ false

no_mark : (byte : ℕ) → is_mark byte ≡ false → NoMark byte
no_mark byte is = by (byte == 34) (byte == 13) (byte == 10) refl refl refl is
  where
    by : (q r f : Bool) → (byte == 34) ≡ q → (byte == 13) ≡ r → (byte == 10) ≡ f → (q || r || f) ≡ false → NoMark byte
    by true r f eq er ef h = absurd cc
    by false true f eq er ef h = absurd cc
    by false false true eq er ef h = absurd cc
    by false false false eq er ef h = record { quote = eq; return = er; feed = ef }

first_clear : (a b : Bool) → (a || b) ≡ false → (a ≡ false) × (b ≡ false)
first_clear true b e = absurd cc
first_clear false b e = (refl, e)

-- a field starts as it goes on
starts_same : (fields : List (List ℕ)) (field line : List ℕ) → list_any is_mark line ≡ false
    → next_record default_config st.StartField fields field line ≡ next_record default_config st.InField fields field line
unfolding next_record
starts_same fields field [] clear = refl
starts_same fields field (byte ∷ rest) clear = start-same fields field byte rest (no_mark byte (first_clear _ _ clear).0).quote

reads_rest : (fields : List (List ℕ)) (field line : List ℕ) → list_any is_mark line ≡ false
    → next_record default_config st.InField fields field line ≡ Some (fields ++ behind field (parts_of line), st.StartRecord, [])
unfolding next_record
reads_rest fields field [] clear = rw (behind_bytes field []) refl
reads_rest fields field (byte ∷ rest) clear =
    let both = first_clear (is_mark byte) (list_any is_mark rest) clear in
    let m = no_mark byte both.0 in
    elim (cases_Bool (byte == 44)) [
      | inl comma ↦
          rw (comma, behind_bytes field (parts_of rest)) (
          starts_same (fields ++ field ∷ []) [] rest both.1 ∙ reads_rest (fields ++ field ∷ []) [] rest both.1 ∙ ap (λ all. Some (all, st.StartRecord, [])) (append_assoc fields (field ∷ []) (parts_of rest)))
      | inr other ↦
          rw (other, m.return, m.feed) (reads_rest fields (field ++ byte ∷ []) rest both.1 ∙ ap (λ all. Some (fields ++ all, st.StartRecord, [])) (behind_more field byte (parts_of rest)))
    ]

reads_line : (byte : ℕ) (rest : List ℕ) → list_any is_mark (byte ∷ rest) ≡ false
    → next_record default_config st.StartRecord [] [] (byte ∷ rest) ≡ Some (parts_of (byte ∷ rest), st.StartRecord, [])
reads_line byte rest clear =
    let m = no_mark byte (first_clear _ _ clear).0 in
    record-same [] [] byte rest m.return m.feed ∙ starts_same [] [] (byte ∷ rest) clear ∙ reads_rest [] [] (byte ∷ rest) clear

-- no byte order mark stands before it
mark_kept : (byte : ℕ) (rest : List ℕ) → (byte == 0xEF) ≡ false → strip_bom (byte ∷ rest) ≡ byte ∷ rest
unfolding strip_bom
mark_kept byte [] other = refl
mark_kept byte (a ∷ []) other = refl
mark_kept byte (a ∷ b ∷ rest) other = rw other refl

both_false : (a b : Bool) → (not a && not b) ≡ true → (a ≡ false) × (b ≡ false)
both_false true b e = absurd cc
both_false false true e = absurd cc
both_false false false e = (refl, refl)

pub plain_line_splits : (line : List ℕ) → is_plain line ≡ true → fields_in line ≡ Some (parts_of line)
plain_line_splits [] plain = absurd cc
plain_line_splits (byte ∷ rest) plain =
    let h = both_false _ _ plain in
    whole_read (byte ∷ rest) (parts_of (byte ∷ rest)) (ap (next_record default_config st.StartRecord [] []) (mark_kept byte rest h.0) ∙ reads_line byte rest h.1)
