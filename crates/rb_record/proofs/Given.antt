-- One field of a record, and whether each is text.
use Rattle.std.proofs.Common.{◌≡◌, ◌<◌, ℕ, zero, suc, List, [], ◌∷◌, length, get_or, Bool, true, false, ◌&&◌, Option, Some, None, Result, Ok, Err, refl, ◌∙◌, ap, sym, arith, true≢false}
use Rattle.std.specs.Prelude.{option_map, unwrap_or}
use Rattle.std.specs.List.{list_all}
use Rattle.std.specs.Str.{is_utf8, IsUtf8}
use Rattle.std.specs.Result.{MatchResult, is_ok}
use Rattle.std.proofs.lemmas.Str.{IsUtf8-from_is_utf8, is_utf8-from_IsUtf8}
use denote.Ref.{Bor}
use Rattle.csv.specs.Records.{field_at}

field_or : (fields : List (List ℕ)) (k : ℕ) → unwrap_or (field_at fields k) [] ≡ get_or fields k []
unfolding field_at
field_or [] k = refl
field_or (f ∷ fs) zero = refl
field_or (f ∷ fs) (suc k) = field_or fs k

-- the field that a record gives, or an empty one
pub field_got : (fields : List (List ℕ)) (k : ℕ) (found : Option (Bor (List ℕ))) (none got : Bor (List ℕ)) → none.now ≡ [] → option_map (λ s. s.now) found ≡ field_at fields k → got ≡ unwrap_or found none
    → got.now ≡ get_or fields k []
field_got fields k None none got empty value is = ap (λ (s : Bor (List ℕ)). s.now) is ∙ empty ∙ ap (λ o. unwrap_or o []) value ∙ field_or fields k
field_got fields k (Some x) none got empty value is = ap (λ (s : Bor (List ℕ)). s.now) is ∙ ap (λ o. unwrap_or o []) value ∙ field_or fields k

-- what the test of a text says
pub text_tested : {A E : Type 0} (text : List ℕ) (P : A → Type 0) (Q : E → Type 0) (r : Result A E) (b : Bool) → MatchResult r (λ s. P s × IsUtf8 text) (λ e. ¬ (IsUtf8 text) × Q e) → b ≡ is_ok r → b ≡ is_utf8 text
text_tested text P Q (Ok s) b cases is = is ∙ sym (is_utf8-from_IsUtf8 text cases.1)
text_tested text P Q (Err e) b cases is = is ∙ by (is_utf8 text) refl
  where
    by : (b : Bool) → is_utf8 text ≡ b → false ≡ b
    by false e = refl
    by true e = absurd (cases.0 (IsUtf8-from_is_utf8 text e))

-- each item passes where each place does, and not where one does not
pub all_pass : {A : Type 0} (p : A → Bool) (d : A) (xs : List A) → ((k : ℕ) → k < length xs → p (get_or xs k d) ≡ true) → list_all p xs ≡ true
all_pass p d [] each = refl
all_pass p d (x ∷ xs) each = rw (each 0 (omega arith)) (all_pass p d xs (λ k within. each (suc k) (omega arith)))

pub one_fails : {A : Type 0} (p : A → Bool) (d : A) (xs : List A) (k : ℕ) → k < length xs → p (get_or xs k d) ≡ false → list_all p xs ≡ false
one_fails p d [] k within fails = absurd (omega arith)
one_fails p d (x ∷ xs) zero within fails = rw fails refl
one_fails p d (x ∷ xs) (suc k) within fails = by (p x) (one_fails p d xs k (omega arith) fails)
  where
    by : (b : Bool) → list_all p xs ≡ false → (b && list_all p xs) ≡ false
    by true e = e
    by false e = refl
