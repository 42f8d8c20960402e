-- What a reference says.
use Rattle.std.proofs.Common.{◌≡◌, ◌≢◌, ℕ, ◌<◌, ◌^◌, Bool, true, false, cond, ◌&&◌, List, [], ◌∷◌, length, get_or, Option, Some, None, Result, Ok, Err, refl, sym, ap, subst, ◌∙◌, arith, eqb, ltb}
use Rattle.std.specs.List.{list_all}
use Rattle.std.specs.Option.{option_map, SomeIff}
use Rattle.std.specs.Result.{result_ok}
use Rattle.std.specs.Char.{encode_utf8, is_digit, IsScalar}
use Rattle.std.specs.Str.Parse.{AllDigits, IsNumeral, digits_value, ParsesUnsigned}
use Rattle.std.proofs.lemmas.Bool.{eq-eqb, ltb-true, lt-ltb, and_parts}
use Rattle.std.proofs.lemmas.Bool.Decides.{nat_tests}
use Rattle.std.proofs.lemmas.Str.Parse.{without_leading_plus_none}
use lib.Utf8.{scalar}
use Rattle.rb_tags.specs.Bytes.{after_front}
use Rattle.rb_tags.specs.References.{character_of, number_of, entity_of, reference_of}
use Rattle.rb_tags.specs.Values.{IsCharacter}
use Rattle.rb_tags.proofs.Steps.{test_some, some_is}

digits_pass : (radix : ℕ) (digits : List ℕ) → AllDigits radix digits → list_all (λ b. is_digit b radix) digits ≡ true
digits_pass radix [] all = refl
digits_pass radix (c ∷ cs) all = let here : is_digit c radix ≡ true = lt-ltb _ _ all.0 in rw here (digits_pass radix cs all.1)

digits_are : (radix : ℕ) (digits : List ℕ) → list_all (λ b. is_digit b radix) digits ≡ true → AllDigits radix digits
digits_are radix [] pass = tt
digits_are radix (c ∷ cs) pass = let both = and_parts (is_digit c radix) (list_all (λ b. is_digit b radix) cs) pass in (ltb-true _ _ both.0, digits_are radix cs both.1)

scalar_small : (n : ℕ) → IsScalar n → n < 2 ^ 32
scalar_small n h = grind (arith, nat_tests)

-- digits say their character, and no other text says one
pub character_made : (radix : ℕ) (digits : List ℕ) → IsCharacter radix digits → character_of radix digits ≡ Some (encode_utf8 (digits_value radix digits))
unfolding character_of
character_made radix digits is =
    let some : ltb 0 (length digits) ≡ true = lt-ltb _ _ is.numeral.0 in
    let all = digits_pass radix digits is.numeral.1 in
    let scalar = is.scalar in
    rw (some, all) (rw scalar refl)

pub record SaysCharacter (radix : ℕ) (digits value : List ℕ) : Type 0 where
  pub is : IsCharacter radix digits
  pub value_is : encode_utf8 (digits_value radix digits) ≡ value

pub character_is : (radix : ℕ) (digits value : List ℕ) → character_of radix digits ≡ Some value → SaysCharacter radix digits value
unfolding character_of
character_is radix digits value e =
    let some = ltb 0 (length digits) in
    let all = list_all (λ b. is_digit b radix) digits in
    let t = test_some (some && all && scalar (digits_value radix digits)) (Some (encode_utf8 (digits_value radix digits))) value e in
    let two = and_parts (some && all) (scalar (digits_value radix digits)) t.0 in
    let one = and_parts some all two.0 in
    record { is = record { numeral = (ltb-true _ _ one.0, digits_are radix digits one.1); scalar = two.1 }; value_is = some_is _ value t.1 }

character_refused : (radix : ℕ) (digits : List ℕ) → ¬ (IsCharacter radix digits) → character_of radix digits ≡ None
character_refused radix digits never = by_answer (character_of radix digits) refl
  where
    by_answer : (r : Option (List ℕ)) → character_of radix digits ≡ r → r ≡ None
    by_answer (Some value) e = let says = character_is radix digits value e in absurd (never says.is)
    by_answer None e = refl

-- what parsing says of the character
pub parse_fails : {E : Type 0} (radix : ℕ) (digits : List ℕ) (r : Result ℕ E) → get_or digits 0 0 ≢ 43 → ParsesUnsigned 32 radix digits r → None ≡ result_ok r → character_of radix digits ≡ None
parse_fails radix digits (Ok n) plain parses e = absurd cc
parse_fails radix digits (Err error) plain parses e =
    let fails = rw (without_leading_plus_none digits plain) at parses in
    character_refused radix digits (λ is. fails (is.numeral, scalar_small _ is.scalar))

pub parse_is : {E : Type 0} (radix : ℕ) (digits : List ℕ) (r : Result ℕ E) (n : ℕ) (o : Option ℕ) → get_or digits 0 0 ≢ 43 → ParsesUnsigned 32 radix digits r → Some n ≡ result_ok r → SomeIff o (IsScalar n) n → option_map encode_utf8 o ≡ character_of radix digits
parse_is radix digits (Err error) n o plain parses e scalar = absurd cc
parse_is radix digits (Ok m) n o plain parses e scalar =
    let read = rw (without_leading_plus_none digits plain) at parses in
    let same : n ≡ digits_value radix digits = cc (e, read.1) in
    by_answer o (subst (λ (k : ℕ). SomeIff o (IsScalar k) k) same scalar) read.0.0
  where
    by_answer : (o : Option ℕ) → SomeIff o (IsScalar (digits_value radix digits)) (digits_value radix digits) → IsNumeral radix digits → option_map encode_utf8 o ≡ character_of radix digits
    by_answer (Some c) is numeral = ap (λ (k : ℕ). Some (encode_utf8 k)) is.1 ∙ sym (character_made radix digits (record { numeral = numeral; scalar = is.0 }))
    by_answer None is numeral = sym (character_refused radix digits (λ made. is made.scalar))

-- a number without x, and a reference without #
pub number_other : (bytes : List ℕ) → after_front (120 ∷ []) bytes ≡ None → number_of bytes ≡ character_of 10 bytes
unfolding after_front number_of
number_other [] other = unfold character_of in refl
number_other (b ∷ bs) other = by_test (eqb b 120) other
  where
    by_test : (t : Bool) → cond t (after_front [] bs) None ≡ None → cond t (character_of 16 bs) (character_of 10 (b ∷ bs)) ≡ character_of 10 (b ∷ bs)
    by_test true e = absurd cc
    by_test false e = refl

pub reference_other : (bytes : List ℕ) → after_front (35 ∷ []) bytes ≡ None → reference_of bytes ≡ entity_of bytes
unfolding after_front reference_of
reference_other [] other = unfold entity_of in refl
reference_other (b ∷ bs) other = by_test (eqb b 35) other
  where
    by_test : (t : Bool) → cond t (after_front [] bs) None ≡ None → cond t (number_of bs) (entity_of (b ∷ bs)) ≡ entity_of (b ∷ bs)
    by_test true e = absurd cc
    by_test false e = refl

pub no_plus : (b : ℕ) → false ≡ eqb b 43 → b ≢ 43
no_plus b e same = let yes = eq-eqb b 43 same in cc
