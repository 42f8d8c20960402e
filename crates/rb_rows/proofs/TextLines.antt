-- A line of texts is text.
use Rattle.std.proofs.Common.{◌≡◌, ℕ, suc, ◌<◌, ◌==◌, String, Bool, true, false, List, [], ◌∷◌, ◌++◌, length, get_or, map, IsUtf8, inl, inr, refl, sym, ◌∙◌, subst, arith, append-nil}
use Rattle.std.specs.Prelude.{if◌then◌else◌, string_bytes}
use Rattle.std.specs.List.{AllByRecursion, list_any}
use Rattle.std.proofs.lemmas.Bool.{and_parts, cases_eq, ne_eqb}
use Rattle.std.proofs.lemmas.Str.{IsUtf8-append, IsUtf8-nil, IsUtf8-encode, IsUtf8-string_bytes, encode_ascii, inside_one}
use lib.Utf8.{scalar, scalars, encode, encodes, low_scalar}
use Rattle.csv.specs.Writing.{default_writer, escaped, quoted, needs_quotes, field_text, fields_text, is_blank, row_text}
use Rattle.csv.proofs.WriteFacts.{escaped-append, escaped-none}

-- ---- fields
no_quote : (bytes : List ℕ) → ((k : ℕ) → k < length bytes → get_or bytes k 0 ≡ 34 → ⊥) → list_any (λ b. b == 34) bytes ≡ false
no_quote [] other = refl
no_quote (byte ∷ bytes) other = rw (ne_eqb byte 34 (other 0 (omega arith))) (no_quote bytes (λ k within. other (suc k) (omega arith)))

ascii_then : (byte : ℕ) (text : List ℕ) → byte < 128 → IsUtf8 text → IsUtf8 (byte ∷ text)
ascii_then byte text small is = IsUtf8-append (byte ∷ []) text (subst IsUtf8 (encode_ascii byte small) (IsUtf8-encode byte (low_scalar byte (omega arith)))) is

quote : IsUtf8 (34 ∷ [])
quote = ascii_then 34 [] (omega arith) IsUtf8-nil

quotes : IsUtf8 (34 ∷ 34 ∷ [])
quotes = ascii_then 34 (34 ∷ []) (omega arith) quote

end : IsUtf8 (10 ∷ [])
end = ascii_then 10 [] (omega arith) IsUtf8-nil

char_escaped : (c : ℕ) → scalar c ≡ true → IsUtf8 (escaped default_writer (encode c))
unfolding escaped encode
char_escaped c ok = elim (cases_eq c 34) [
  | inl same ↦ subst (λ x. IsUtf8 (escaped default_writer (encode x))) (sym same) quotes
  | inr other ↦
      subst IsUtf8 (sym (escaped-none default_writer (encode c) (no_quote (encode c) (λ k within e. other (inside_one c [] (encode c) k (sym (append-nil _)) within (omega (arith, e)) ∙ e))))) (IsUtf8-encode c ok)
]

chars_escaped : (cs : List ℕ) → scalars cs ≡ true → IsUtf8 (escaped default_writer (encodes cs))
unfolding escaped
chars_escaped [] e = IsUtf8-nil
chars_escaped (c ∷ cs) e =
    let p = and_parts _ _ e in
    subst IsUtf8 (sym (escaped-append default_writer (encode c) (encodes cs))) (IsUtf8-append _ _ (char_escaped c p.0) (chars_escaped cs p.1))

text_escaped : (text : List ℕ) → IsUtf8 text → IsUtf8 (escaped default_writer text)
text_escaped text is = subst (λ t. IsUtf8 (escaped default_writer t)) is.1.1 (chars_escaped is.0 is.1.0)

of_field : (text : List ℕ) → IsUtf8 text → IsUtf8 (field_text default_writer text)
of_field text is = by (needs_quotes default_writer text)
  where
    by : (needs : Bool) → IsUtf8 (if needs then quoted default_writer text else text)
    by true = ascii_then 34 _ (omega arith) (IsUtf8-append _ _ (text_escaped text is) quote)
    by false = is

of_fields : (texts : List (List ℕ)) → AllByRecursion IsUtf8 texts → IsUtf8 (fields_text default_writer texts)
unfolding fields_text
of_fields [] are = IsUtf8-nil
of_fields (text ∷ texts) are = ascii_then 44 _ (omega arith) (IsUtf8-append _ _ (of_field text are.0) (of_fields texts are.1))

-- ---- lines
of_end : (blank : Bool) → IsUtf8 ((if blank then 34 ∷ 34 ∷ [] else []) ++ 10 ∷ [])
of_end true = IsUtf8-append (34 ∷ 34 ∷ []) (10 ∷ []) quotes end
of_end false = end

of_line : (texts : List (List ℕ)) → AllByRecursion IsUtf8 texts → IsUtf8 (row_text default_writer texts)
of_line [] are = of_end (is_blank default_writer [])
of_line (text ∷ texts) are = IsUtf8-append _ _ (IsUtf8-append _ _ (of_field text are.0) (of_fields texts are.1)) (of_end (is_blank default_writer (text ∷ texts)))

are_texts : {A : Type 0} (texts : List (String A)) → AllByRecursion IsUtf8 (map string_bytes texts)
are_texts [] = tt
are_texts (text ∷ texts) = (IsUtf8-string_bytes text, are_texts texts)

pub line_is_text : {A : Type 0} (texts : List (String A)) → IsUtf8 (row_text default_writer (map string_bytes texts))
line_is_text texts = of_line (map string_bytes texts) (are_texts texts)
