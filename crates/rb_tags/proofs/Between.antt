-- Text between marks.
use Rattle.std.proofs.Common.{◌≡◌, ℕ, suc, ◌+◌, ◌<◌, Bool, true, false, cond, eqb, ◌&&◌, List, [], ◌∷◌, length, Ok, Err, refl, arith}
use Rattle.std.proofs.lemmas.Bool.Decides.{nat_tests}
use Rattle.std.specs.List.{take_while, list_all}
use Rattle.rb_tags.specs.declared.read.TagKind.TheVariants.{BadMark}
use Rattle.rb_tags.specs.Faults.{fault_at}
use Rattle.rb_tags.specs.Bytes.{is_space, is_text_byte, past}
use Rattle.rb_tags.specs.Seen.{Seen, read_text}
use Rattle.rb_tags.proofs.Runs.{past_yes, past_no}

all_cons : (p : ℕ → Bool) (b : ℕ) (bs : List ℕ) → (length (past p bs) ≡ 0 → list_all p bs ≡ true) → (t : Bool) → p b ≡ t → length (past p (b ∷ bs)) ≡ 0 → list_all p (b ∷ bs) ≡ true
all_cons p b bs others true h none = rw h (others (rw (past_yes p b bs h) at none))
all_cons p b bs others false h none = absurd (let e : suc (length bs) ≡ 0 = rw (past_no p b bs h) at none in omega arith)

pub all_pass : (p : ℕ → Bool) (bytes : List ℕ) → length (past p bytes) ≡ 0 → list_all p bytes ≡ true
all_pass p [] none = refl
all_pass p (b ∷ bs) none = all_cons p b bs (all_pass p bs) (p b) refl none

not_all_cons : (p : ℕ → Bool) (b : ℕ) (bs : List ℕ) → (0 < length (past p bs) → list_all p bs ≡ false) → (t : Bool) → p b ≡ t → 0 < length (past p (b ∷ bs)) → list_all p (b ∷ bs) ≡ false
not_all_cons p b bs others true h some = rw h (others (rw (past_yes p b bs h) at some))
not_all_cons p b bs others false h some = rw h refl

pub not_all_pass : (p : ℕ → Bool) (bytes : List ℕ) → 0 < length (past p bytes) → list_all p bytes ≡ false
unfolding past
not_all_pass p [] some = absurd (omega arith)
not_all_pass p (b ∷ bs) some = not_all_cons p b bs (not_all_pass p bs) (p b) refl some

pub text_inside : (seen : Seen) (place : ℕ) (bytes : List ℕ) → 0 < length seen.open_elements → read_text seen place bytes ≡ Ok (past is_text_byte bytes)
unfolding read_text
text_inside seen place bytes some = let e : eqb (length seen.open_elements) 0 ≡ false = grind (arith, nat_tests) in rw e refl

pub text_is_space : (seen : Seen) (place : ℕ) (bytes : List ℕ) → length (past is_space (take_while is_text_byte bytes)) ≡ 0 → read_text seen place bytes ≡ Ok (past is_text_byte bytes)
unfolding read_text
text_is_space seen place bytes none = rw (all_pass is_space (take_while is_text_byte bytes) none) (either (eqb (length seen.open_elements) 0))
  where
    either : (b : Bool) → cond (b && false) (Err (fault_at BadMark (place + length (take_while is_space (take_while is_text_byte bytes))))) (Ok (past is_text_byte bytes)) ≡ Ok (past is_text_byte bytes)
    either true = refl
    either false = refl

pub text_stays : (seen : Seen) (place : ℕ) (bytes : List ℕ) → length seen.open_elements ≡ 0 → 0 < length (past is_space (take_while is_text_byte bytes)) → read_text seen place bytes ≡ Err (fault_at BadMark (place + length (take_while is_space (take_while is_text_byte bytes))))
unfolding read_text
text_stays seen place bytes none some = rw (none, not_all_pass is_space (take_while is_text_byte bytes) some) refl
