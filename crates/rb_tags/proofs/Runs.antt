-- Where runs of bytes end, and what stands at the front of a text.
use Rattle.std.proofs.Common.{◌≡◌, ℕ, zero, suc, ◌+◌, ◌<◌, ◌≤◌, Bool, true, false, cond, List, [], ◌∷◌, ◌++◌, length, drop, IsUtf8, IsCharBoundary, Option, Some, None, MatchOption, refl, sym, ap, subst, ◌∙◌, arith, inl, inr, eqb}
use Rattle.std.specs.List.{prefix_len, take_while, AllPass}
use Rattle.std.specs.Str.Pattern.{LacksTextAt, FindsText, FindsTextPrefix, StripsPrefix, SplitsAroundMatch}
use Rattle.std.specs.Option.{option_copied}
use denote.Ref.{Bor}
use Rattle.std.proofs.lemmas.Bool.{eqb-true, eq-eqb, cases_lt}
use Rattle.std.proofs.lemmas.Bool.Decides.{nat_tests}
use Rattle.std.proofs.Math.Seq.{drop-nil}
use Rattle.std.proofs.lemmas.List.{take_at, drop_at}
use Rattle.std.proofs.lemmas.List.Elements.{All-head, All-tail}
use Rattle.std.proofs.lemmas.List.Sums.{prefix_len_passes, prefix_len_stops, prefix_len-le-length}
use Rattle.std.proofs.lemmas.Str.{IsCharBoundary-before_ascii, IsCharBoundary-after_ascii, IsCharBoundary-end, IsCharBoundary-start}
use Rattle.rb_tags.specs.declared.bytes.Quote.TheVariants.{Double, Single}
use Rattle.rb_tags.specs.declared.bytes.Class.{Class}
use Rattle.rb_tags.specs.declared.bytes.Class.TheVariants.{Space, Name, Value, Text, Reference}
use Rattle.rb_tags.specs.Bytes.{is_space, is_name_byte, is_value_byte, is_text_byte, is_reference_byte, has_of, past, after_front, after_first}

-- a run of a class whose bytes are ASCII, or whose other bytes are, ends between characters
boundary_after : (p : ℕ → Bool) → ((b : ℕ) → p b ≡ true → b < 128) → (bytes : List ℕ) → IsUtf8 bytes → IsCharBoundary bytes (prefix_len p bytes)
boundary_after p low bytes u = by_len (prefix_len p bytes) refl
  where
    by_len : (n : ℕ) → prefix_len p bytes ≡ n → IsCharBoundary bytes n
    by_len zero e = IsCharBoundary-start bytes u
    by_len (suc n) e =
        let before : n < prefix_len p bytes = omega arith in
        let within : n < length bytes = omega (arith, prefix_len-le-length p bytes) in
        let next : n + 1 ≡ suc n = omega arith in
        subst (λ (k : ℕ). IsCharBoundary bytes k) next (IsCharBoundary-after_ascii bytes n u within (low _ (prefix_len_passes p bytes n 0 before)))

boundary_before : (p : ℕ → Bool) → ((b : ℕ) → p b ≡ false → b < 128) → (bytes : List ℕ) → IsCharBoundary bytes (prefix_len p bytes)
boundary_before p low bytes =
    elim (cases_lt (prefix_len p bytes) (length bytes)) [
      | inl lt ↦ IsCharBoundary-before_ascii bytes (prefix_len p bytes) lt (low _ (prefix_len_stops p bytes 0 lt))
      | inr le ↦ let end : length bytes ≡ prefix_len p bytes = omega (arith, prefix_len-le-length p bytes) in subst (λ (k : ℕ). IsCharBoundary bytes k) end (IsCharBoundary-end bytes)
    ]

space_low : (b : ℕ) → is_space b ≡ true → b < 128
unfolding is_space
space_low b h = grind (arith, nat_tests)

name_low : (b : ℕ) → is_name_byte b ≡ false → b < 128
unfolding is_name_byte is_space
name_low b h = grind (arith, nat_tests)

value_low : (quote b : ℕ) → quote < 128 → is_value_byte quote b ≡ false → b < 128
unfolding is_value_byte
value_low quote b q h = grind (arith, nat_tests)

text_low : (b : ℕ) → is_text_byte b ≡ false → b < 128
unfolding is_text_byte
text_low b h = grind (arith, nat_tests)

reference_low : (b : ℕ) → is_reference_byte b ≡ false → b < 128
unfolding is_reference_byte
reference_low b h = grind (arith, nat_tests)

pub run_boundary : (class : Class) (bytes : List ℕ) → IsUtf8 bytes → IsCharBoundary bytes (prefix_len (has_of class) bytes)
run_boundary Space bytes u = boundary_after is_space space_low bytes u
run_boundary Name bytes u = boundary_before is_name_byte name_low bytes
run_boundary (Value Double) bytes u = boundary_before (is_value_byte 34) (λ b h. value_low 34 b (omega arith) h) bytes
run_boundary (Value Single) bytes u = boundary_before (is_value_byte 39) (λ b h. value_low 39 b (omega arith) h) bytes
run_boundary Text bytes u = boundary_before is_text_byte text_low bytes
run_boundary Reference bytes u = boundary_before is_reference_byte reference_low bytes

-- a text at the front, and what is after it
pub front_found : (front rest : List ℕ) → after_front front (front ++ rest) ≡ Some rest
unfolding after_front
front_found [] rest = refl
front_found (c ∷ cs) rest = rw (eq-eqb c c refl) (front_found cs rest)

pub front_lacks : (front bytes : List ℕ) → LacksTextAt front bytes 0 → after_front front bytes ≡ None
unfolding after_front
front_lacks [] bytes lacks = absurd (lacks bytes refl)
front_lacks (c ∷ cs) [] lacks = refl
front_lacks (c ∷ cs) (b ∷ bs) lacks = by_test (eqb b c) refl (front_lacks cs bs)
  where
    by_test : (t : Bool) → eqb b c ≡ t → (LacksTextAt cs bs 0 → after_front cs bs ≡ None) → cond t (after_front cs bs) None ≡ None
    by_test true e none = none (λ rest same. lacks rest (let is = eqb-true b c e in cc))
    by_test false e none = refl

-- the first place of a text, and what is after it
pub first_found : (closing bytes rest : List ℕ) (i : ℕ) → ((k : ℕ) → k < i → LacksTextAt closing bytes k) → drop i bytes ≡ closing ++ rest → after_first closing bytes ≡ Some rest
unfolding after_first
first_found closing [] rest i before at =
    let whole : [] ≡ closing ++ rest = sym (drop-nil i) ∙ at in
    subst (λ (t : List ℕ). after_front closing t ≡ Some rest) (sym whole) (front_found closing rest)
first_found closing (b ∷ bs) rest zero before at =
    let here : after_front closing (b ∷ bs) ≡ Some rest = subst (λ (t : List ℕ). after_front closing t ≡ Some rest) (sym at) (front_found closing rest) in
    rw here refl
first_found closing (b ∷ bs) rest (suc i) before at =
    let none : after_front closing (b ∷ bs) ≡ None = front_lacks closing (b ∷ bs) (before 0 (omega arith)) in
    rw none (first_found closing bs rest i (λ k lt. before (suc k) (omega arith)) at)

pub first_lacks : (closing bytes : List ℕ) → ((i : ℕ) → i ≤ length bytes → LacksTextAt closing bytes i) → after_first closing bytes ≡ None
unfolding after_first
first_lacks closing [] lacks = front_lacks closing [] (lacks 0 (omega arith))
first_lacks closing (b ∷ bs) lacks =
    let none : after_front closing (b ∷ bs) ≡ None = front_lacks closing (b ∷ bs) (lacks 0 (omega arith)) in
    rw none (first_lacks closing bs (λ i le. lacks (suc i) (omega arith)))

-- what `strip_prefix` and `split_once` give
pub strips_front : (front bytes : List ℕ) (r : Option (Bor (List ℕ))) → MatchOption r (FindsTextPrefix front bytes None) (λ x. StripsPrefix (FindsTextPrefix front) bytes x.now) → option_copied r ≡ after_front front bytes
strips_front front bytes None h = sym (front_lacks front bytes h)
strips_front front bytes (Some x) h =
    let whole : bytes ≡ front ++ x.now = h.1.1 ∙ ap (λ (t : List ℕ). front ++ t) (sym h.2) in
    sym (subst (λ (t : List ℕ). after_front front t ≡ Some x.now) (sym whole) (front_found front x.now))

pub splits_first : (closing bytes front rest : List ℕ) → SplitsAroundMatch (FindsText closing) bytes front rest → after_first closing bytes ≡ Some rest
splits_first closing bytes front rest h =
    let at : drop h.0 bytes ≡ closing ++ rest = h.2.1.split ∙ ap (λ (t : List ℕ). closing ++ t) (sym h.4) in
    first_found closing bytes rest h.0 h.2.0 at

-- the first byte, if there is one, does not pass
abbrev pub Stops : (ℕ → Bool) → List ℕ → Type 0
Stops p [] = Unit {0}
Stops p (b ∷ bs) = p b ≡ false

prefix_len_run : (p : ℕ → Bool) (run rest : List ℕ) → AllPass p run → Stops p rest → prefix_len p (run ++ rest) ≡ length run
prefix_len_run p [] [] all stops = refl
prefix_len_run p [] (b ∷ bs) all stops = rw stops refl
prefix_len_run p (b ∷ run) rest all stops =
    let first : p b ≡ true = All-head (λ x. p x ≡ true) b run all in
    let others = prefix_len_run p run rest (All-tail (λ x. p x ≡ true) b run all) stops in
    rw first (omega (arith, others))

-- a run that is written is read again
pub run_again : (p : ℕ → Bool) (run rest : List ℕ) → AllPass p run → Stops p rest → take_while p (run ++ rest) ≡ run
run_again p run rest all stops = take_at run rest (prefix_len p (run ++ rest)) (sym (prefix_len_run p run rest all stops))

pub past_again : (p : ℕ → Bool) (run rest : List ℕ) → AllPass p run → Stops p rest → past p (run ++ rest) ≡ rest
unfolding past
past_again p run rest all stops = drop_at run rest (prefix_len p (run ++ rest)) (sym (prefix_len_run p run rest all stops))

-- one byte more at the front
pub take_while_yes : (p : ℕ → Bool) (b : ℕ) (bytes : List ℕ) → p b ≡ true → take_while p (b ∷ bytes) ≡ b ∷ take_while p bytes
take_while_yes p b bytes passes = let next : 1 + prefix_len p bytes ≡ suc (prefix_len p bytes) = omega arith in rw passes (rw next refl)

pub take_while_no : (p : ℕ → Bool) (b : ℕ) (bytes : List ℕ) → p b ≡ false → take_while p (b ∷ bytes) ≡ []
take_while_no p b bytes fails = rw fails refl

pub past_yes : (p : ℕ → Bool) (b : ℕ) (bytes : List ℕ) → p b ≡ true → past p (b ∷ bytes) ≡ past p bytes
unfolding past
past_yes p b bytes passes = let next : 1 + prefix_len p bytes ≡ suc (prefix_len p bytes) = omega arith in rw passes (rw next refl)

pub past_no : (p : ℕ → Bool) (b : ℕ) (bytes : List ℕ) → p b ≡ false → past p (b ∷ bytes) ≡ b ∷ bytes
unfolding past
past_no p b bytes fails = rw fails refl

-- what is after a run begins with a byte that does not pass
pub past_stops : (p : ℕ → Bool) (bytes : List ℕ) → Stops p (past p bytes)
past_stops p [] = unfold past in tt
past_stops p (b ∷ bs) = by_test (p b) refl (past_stops p bs)
  where
    by_test : (t : Bool) → p b ≡ t → Stops p (past p bs) → Stops p (past p (b ∷ bs))
    by_test true e others = rw (past_yes p b bs e) others
    by_test false e others = rw (past_no p b bs e) e
