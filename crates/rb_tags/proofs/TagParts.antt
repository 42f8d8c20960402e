-- A tag ends at the first > outside its quoted parts.
use Rattle.std.proofs.Common.{◌≡◌, ℕ, suc, ◌+◌, Bool, true, false, not, cond, eqb, List, [], ◌∷◌, ◌++◌, length, Option, Some, None, refl, sym, ap, ◌∙◌, append_assoc, arith}
use Rattle.std.specs.List.{AllPass, AllByRecursion, flat_map}
use Rattle.std.proofs.lemmas.Bool.{eqb-true, eq-eqb, and_parts, and_from}
use Rattle.std.proofs.lemmas.Bool.Decides.{nat_tests}
use Rattle.std.proofs.lemmas.List.{length-append}
use Rattle.std.proofs.lemmas.List.Elements.{All-head, All-tail, All-cons}
use Rattle.std.proofs.lemmas.List.Concat.{flat_map-cons}
use Rattle.rb_tags.specs.References.{◌>?=◌}
use Rattle.rb_tags.specs.Bytes.{is_quote}
use Rattle.rb_tags.specs.Marks.{quote_after, ends_tag, closing_at}
use Rattle.rb_tags.specs.BadMarks.{TagPart, Byte, Quoted, IsTagPart, is_tag_byte, tag_part_text, Ends}
use Rattle.rb_tags.proofs.Closing.{further, further_none}
use Rattle.rb_tags.proofs.Steps.{bind_some}

pub further_both : (k j : ℕ) (o : Option ℕ) → further k (further j o) ≡ further (k + j) o
further_both k j (Some n) = ap (λ (m : ℕ). Some m) (omega arith)
further_both k j None = refl

step : (quote : Option ℕ) (b : ℕ) (bs : List ℕ) → ends_tag quote b ≡ false → closing_at quote (b ∷ bs) ≡ further 1 (closing_at (quote_after quote b) bs)
unfolding closing_at
step quote b bs h = rw h (one (closing_at (quote_after quote b) bs))
  where
    one : (o : Option ℕ) → (o >?= λ n. Some (suc n)) ≡ further 1 o
    one (Some n) = ap (λ (m : ℕ). Some m) (omega arith)
    one None = refl

not_true : (b : Bool) → not b ≡ true → b ≡ false
not_true true e = absurd cc
not_true false e = refl

-- a byte outside quoted parts
pub over_byte : (b : ℕ) (bs : List ℕ) → is_tag_byte b ≡ true → closing_at None (b ∷ bs) ≡ further 1 (closing_at None bs)
over_byte b bs h =
    let both = and_parts (not (eqb b 62)) (not (is_quote b)) h in
    let plain : is_quote b ≡ false = not_true (is_quote b) both.1 in
    let on : quote_after None b ≡ None = rw plain refl in
    step None b bs (not_true (eqb b 62) both.0) ∙ ap (λ (q : Option ℕ). further 1 (closing_at q bs)) on

-- bytes inside a quoted part, and its end
inside_quote : (quote : ℕ) (inside rest : List ℕ) → AllPass (λ b. not (eqb b quote)) inside → closing_at (Some quote) (inside ++ quote ∷ rest) ≡ further (suc (length inside)) (closing_at None rest)
inside_quote quote [] rest all =
    let closes : quote_after (Some quote) quote ≡ None = rw (eq-eqb quote quote refl) refl in
    let one : suc 0 ≡ 1 = omega arith in
    step (Some quote) quote rest refl ∙ ap (λ (q : Option ℕ). further 1 (closing_at q rest)) closes
inside_quote quote (b ∷ inside) rest all =
    let other : eqb b quote ≡ false = not_true (eqb b quote) (All-head (λ x. not (eqb x quote) ≡ true) b inside all) in
    let stays : quote_after (Some quote) b ≡ Some quote = rw other refl in
    let n = length inside in
    let sum : 1 + suc n ≡ suc (suc n) = omega arith in
    step (Some quote) b (inside ++ quote ∷ rest) refl
    ∙ ap (λ (q : Option ℕ). further 1 (closing_at q (inside ++ quote ∷ rest))) stays
    ∙ ap (further 1) (inside_quote quote inside rest (All-tail (λ x. not (eqb x quote) ≡ true) b inside all))
    ∙ further_both 1 (suc n) (closing_at None rest)
    ∙ ap (λ (k : ℕ). further k (closing_at None rest)) sum

quote_ends : (quote : ℕ) → is_quote quote ≡ true → ends_tag None quote ≡ false
unfolding is_quote
quote_ends quote h = grind (arith, nat_tests)

-- a quoted part
pub over_quoted : (quote : ℕ) (inside rest : List ℕ) → is_quote quote ≡ true → AllPass (λ b. not (eqb b quote)) inside → closing_at None (quote ∷ (inside ++ quote ∷ rest)) ≡ further (suc (suc (length inside))) (closing_at None rest)
over_quoted quote inside rest h all =
    let opens : quote_after None quote ≡ Some quote = rw h refl in
    let n = length inside in
    let sum : 1 + suc n ≡ suc (suc n) = omega arith in
    step None quote (inside ++ quote ∷ rest) (quote_ends quote h)
    ∙ ap (λ (q : Option ℕ). further 1 (closing_at q (inside ++ quote ∷ rest))) opens
    ∙ ap (further 1) (inside_quote quote inside rest all)
    ∙ further_both 1 (suc n) (closing_at None rest)
    ∙ ap (λ (k : ℕ). further k (closing_at None rest)) sum

-- bytes outside quoted parts
pub over_bytes : (bytes rest : List ℕ) → AllPass is_tag_byte bytes → closing_at None (bytes ++ rest) ≡ further (length bytes) (closing_at None rest)
over_bytes [] rest all = further_none (closing_at None rest)
over_bytes (b ∷ bytes) rest all =
    let n = length bytes in
    let sum : 1 + n ≡ suc n = omega arith in
    over_byte b (bytes ++ rest) (All-head (λ x. is_tag_byte x ≡ true) b bytes all)
    ∙ ap (further 1) (over_bytes bytes rest (All-tail (λ x. is_tag_byte x ≡ true) b bytes all))
    ∙ further_both 1 n (closing_at None rest)
    ∙ ap (λ (k : ℕ). further k (closing_at None rest)) sum

pub here : (rest : List ℕ) → closing_at None (62 ∷ rest) ≡ Some 0
unfolding closing_at
here rest = refl

-- a part of a tag
over_part : (p : TagPart) (rest : List ℕ) → IsTagPart p → closing_at None (tag_part_text p ++ rest) ≡ further (length (tag_part_text p)) (closing_at None rest)
over_part (Byte b) rest h = over_byte b rest h
over_part (Quoted quote inside) rest h =
    let cut : (quote ∷ (inside ++ quote ∷ [])) ++ rest ≡ quote ∷ (inside ++ quote ∷ rest) = ap (λ (t : List ℕ). quote ∷ t) (append_assoc inside (quote ∷ []) rest) in
    let size : suc (suc (length inside)) ≡ length (quote ∷ (inside ++ quote ∷ [])) = omega (arith, length-append inside (quote ∷ [])) in
    ap (closing_at None) cut ∙ over_quoted quote inside rest h.0 h.1 ∙ ap (λ (k : ℕ). further k (closing_at None rest)) size

pub over_parts : (parts : List TagPart) (rest : List ℕ) → AllByRecursion IsTagPart parts → closing_at None (flat_map tag_part_text parts ++ rest) ≡ further (length (flat_map tag_part_text parts)) (closing_at None rest)
over_parts [] rest all = further_none (closing_at None rest)
over_parts (p ∷ parts) rest all =
    let others = flat_map tag_part_text parts in
    let cut : flat_map tag_part_text (p ∷ parts) ++ rest ≡ tag_part_text p ++ (others ++ rest) = ap (λ (t : List ℕ). t ++ rest) (flat_map-cons tag_part_text p parts) ∙ append_assoc (tag_part_text p) others rest in
    let size : length (tag_part_text p) + length others ≡ length (flat_map tag_part_text (p ∷ parts)) = sym (ap length (flat_map-cons tag_part_text p parts) ∙ length-append (tag_part_text p) others) in
    ap (closing_at None) cut
    ∙ over_part p (others ++ rest) all.0
    ∙ ap (further (length (tag_part_text p))) (over_parts parts rest all.1)
    ∙ further_both (length (tag_part_text p)) (length others) (closing_at None rest)
    ∙ ap (λ (k : ℕ). further k (closing_at None rest)) size

pub ends_found : (bytes : List ℕ) → closing_at None bytes ≡ None → Ends bytes → ⊥
ends_found bytes none h =
    let parts = flat_map tag_part_text h.parts in
    let found : closing_at None bytes ≡ Some (length parts + 0) = ap (closing_at None) h.text ∙ over_parts h.parts (62 ∷ h.rest) h.are_parts ∙ ap (further (length parts)) (here h.rest) in
    cc

-- bytes that a tag ends in, from a place in a quoted part or outside one
record EndsInside (quote : ℕ) (bytes : List ℕ) : Type 0 where
  inside : List ℕ
  rest : List ℕ
  all : AllPass (λ b. not (eqb b quote)) inside
  text : bytes ≡ inside ++ quote ∷ rest
  ends : Ends rest

abbrev EndsIn : Option ℕ → List ℕ → Type 0
EndsIn None bytes = Ends bytes
EndsIn (Some quote) bytes = EndsInside quote bytes

parts_cons : (p : TagPart) (bytes rest : List ℕ) → IsTagPart p → bytes ≡ tag_part_text p ++ rest → Ends rest → Ends bytes
parts_cons p bytes rest is e h = record {
  parts = p ∷ h.parts;
  rest = h.rest;
  are_parts = (is, h.are_parts);
  text = e ∙ ap (λ (t : List ℕ). tag_part_text p ++ t) h.text ∙ sym (append_assoc (tag_part_text p) (flat_map tag_part_text h.parts) (62 ∷ h.rest)) ∙ ap (λ (t : List ℕ). t ++ 62 ∷ h.rest) (sym (flat_map-cons tag_part_text p h.parts));
}

is_false : (b : Bool) → b ≡ false → not b ≡ true
is_false true e = absurd cc
is_false false e = refl

outside : (b : ℕ) (bs : List ℕ) (t : Bool) → is_quote b ≡ t → eqb b 62 ≡ false → EndsIn (cond t (Some b) None) bs → Ends (b ∷ bs)
outside b bs true quoted goes h = parts_cons (Quoted b h.inside) (b ∷ bs) h.rest (quoted, h.all) (ap (λ (t : List ℕ). b ∷ t) (h.text ∙ sym (append_assoc h.inside (b ∷ []) h.rest))) h.ends
outside b bs false quoted goes h = parts_cons (Byte b) (b ∷ bs) bs (and_from _ _ (is_false (eqb b 62) goes) (is_false (is_quote b) quoted)) refl h

within : (quote b : ℕ) (bs : List ℕ) (t : Bool) → eqb b quote ≡ t → EndsIn (cond t None (Some quote)) bs → EndsInside quote (b ∷ bs)
within quote b bs true is h = record { inside = []; rest = bs; all = λ i d lt. absurd (omega arith); text = ap (λ (c : ℕ). c ∷ bs) (eqb-true b quote is); ends = h }
within quote b bs false is h = record {
  inside = b ∷ h.inside;
  rest = h.rest;
  all = All-cons (λ x. not (eqb x quote) ≡ true) b h.inside (is_false (eqb b quote) is) h.all;
  text = ap (λ (t : List ℕ). b ∷ t) h.text;
  ends = h.ends;
}

ends_one : (quote : Option ℕ) (b : ℕ) (bs : List ℕ) (t : Bool) → ends_tag quote b ≡ t → (t ≡ false → EndsIn (quote_after quote b) bs) → EndsIn quote (b ∷ bs)
ends_one None b bs true is later_on = record { parts = []; rest = bs; are_parts = tt; text = ap (λ (c : ℕ). c ∷ bs) (eqb-true b 62 is) }
ends_one None b bs false is later_on = outside b bs (is_quote b) refl is (later_on refl)
ends_one (Some quote) b bs true is later_on = absurd cc
ends_one (Some quote) b bs false is later_on = within quote b bs (eqb b quote) refl (later_on refl)

ends_in : (quote : Option ℕ) (bytes : List ℕ) (n : ℕ) → closing_at quote bytes ≡ Some n → EndsIn quote bytes
unfolding closing_at
ends_in quote [] n e = absurd cc
ends_in quote (b ∷ bs) n e =
    ends_one quote b bs (ends_tag quote b) refl (λ goes. let f = bind_some (closing_at (quote_after quote b) bs) (λ k. Some (suc k)) n (rw goes at e) in ends_in (quote_after quote b) bs f.0 f.1)

pub ends_there : (bytes : List ℕ) (n : ℕ) → closing_at None bytes ≡ Some n → Ends bytes
ends_there bytes n e = ends_in None bytes n e
