-- Files that are UTF-8, and those that are not.
use Rattle.std.proofs.Common.{◌≡◌, ℕ, zero, suc, ◌<◌, ◌≤◌, take, length, subst, arith, Bool, true, false, cond, List, Result, Ok, Err, refl, sym, ◌∙◌, ◌⊎◌, inl, inr}
use Rattle.std.specs.Prelude.{IfOk, IfErr}
use Rattle.std.specs.Str.{is_utf8, IsUtf8, IsValidUpTo}
use Rattle.std.specs.Str.Lossy.{valid_len_up_to, utf8_valid_len}
use Rattle.std.proofs.lemmas.Str.{IsUtf8-nil, is_utf8-from_IsUtf8, IsUtf8-from_is_utf8}
use Rattle.std.proofs.lemmas.Bool.{cases_lt}
use Rattle.std.proofs.lemmas.List.{take_all}
use Rattle.rb_tags.specs.declared.read.TagFault.{TagFault}
use Rattle.rb_tags.specs.declared.read.TagKind.TheVariants.{NotUtf8}
use Rattle.rb_tags.specs.Faults.{no_memory, fault_at}
use Rattle.rb_tags.specs.Tags.{tags_of, tags_of_text}
use Rattle.rb_result.specs.Steps.{Gives}

pub tags_of_utf8 : (bytes : List ℕ) → IsUtf8 bytes → tags_of bytes ≡ tags_of_text bytes
unfolding tags_of
tags_of_utf8 bytes valid = rw (is_utf8-from_IsUtf8 bytes valid) refl

pub tags_of_other : (bytes : List ℕ) → ¬ (IsUtf8 bytes) → tags_of bytes ≡ Err (fault_at NotUtf8 (utf8_valid_len bytes))
unfolding tags_of
tags_of_other bytes other = by_test (is_utf8 bytes) refl
  where
    by_test : (t : Bool) → is_utf8 bytes ≡ t → cond t (tags_of_text bytes) (Err (fault_at NotUtf8 (utf8_valid_len bytes))) ≡ Err (fault_at NotUtf8 (utf8_valid_len bytes))
    by_test true h = absurd (other (IsUtf8-from_is_utf8 bytes h))
    by_test false h = refl

-- the longest front that is UTF-8
record Longest (bytes : List ℕ) (n k : ℕ) : Type 0 where
  within : k ≤ n
  front : IsUtf8 (take k bytes)
  longest : (m : ℕ) → k < m → ¬ (IsUtf8 (take m bytes))

longest_front : (bytes : List ℕ) (n : ℕ) → ((m : ℕ) → n < m → ¬ (IsUtf8 (take m bytes))) → Longest bytes n (valid_len_up_to bytes n)
longest_front bytes zero longer = record { within = omega arith; front = IsUtf8-nil; longest = longer }
longest_front bytes (suc n) longer = by_test (is_utf8 (take (suc n) bytes)) refl (longest_front bytes n)
  where
    by_test : (t : Bool) → is_utf8 (take (suc n) bytes) ≡ t → (((m : ℕ) → n < m → ¬ (IsUtf8 (take m bytes))) → Longest bytes n (valid_len_up_to bytes n)) → Longest bytes (suc n) (cond t (suc n) (valid_len_up_to bytes n))
    by_test true h shorter = record { within = omega arith; front = IsUtf8-from_is_utf8 (take (suc n) bytes) h; longest = longer }
    by_test false h shorter =
        let here : ¬ (IsUtf8 (take (suc n) bytes)) = λ valid. let same : true ≡ false = sym (is_utf8-from_IsUtf8 (take (suc n) bytes) valid) ∙ h in absurd cc in
        let l = shorter (λ m lt. elim (cases_lt (suc n) m) [
          | inl more ↦ longer m more
          | inr le ↦ let same : suc n ≡ m = omega arith in subst (λ (i : ℕ). ¬ (IsUtf8 (take i bytes))) same here
        ]) in
        let within = l.within in
        record { within = omega arith; front = l.front; longest = l.longest }

pub valid_up_to : (bytes : List ℕ) → ¬ (IsUtf8 bytes) → IsValidUpTo bytes (utf8_valid_len bytes)
unfolding utf8_valid_len
valid_up_to bytes other =
    let l = longest_front bytes (length bytes) (λ m lt valid. other (subst (λ (t : List ℕ). IsUtf8 t) (take_all m bytes (omega arith)) valid)) in
    let within = l.within in
    record {
      short = elim (cases_lt (valid_len_up_to bytes (length bytes)) (length bytes)) [
        | inl lt ↦ lt
        | inr le ↦ absurd (other (subst (λ (t : List ℕ). IsUtf8 t) (take_all (valid_len_up_to bytes (length bytes)) bytes le) l.front))
      ];
      front = l.front;
      longest = l.longest;
    }

-- what is answered
pub answers_ok : {X Y : Type 0} (view : X → Y) (r : Result X TagFault) (read whole : Result Y TagFault) → Gives no_memory view r read → whole ≡ read → IfOk r (λ x. whole ≡ Ok (view x))
answers_ok view (Ok x) read whole given same = same ∙ given
answers_ok view (Err e) read whole given same = tt

pub answers_err : {X Y : Type 0} (view : X → Y) (r : Result X TagFault) (read whole : Result Y TagFault) → Gives no_memory view r read → whole ≡ read → IfErr r (λ e. (e ≡ no_memory) ⊎ (whole ≡ Err e))
answers_err view (Ok x) read whole given same = tt
answers_err view (Err e) read whole (inl memory) same = inl memory
answers_err view (Err e) read whole (inr fault) same = inr (same ∙ fault)
