-- A tag that is written as the grammar says ends at its >.
use Rattle.std.proofs.Common.{◌≡◌, ℕ, suc, ◌+◌, Bool, true, false, List, [], ◌∷◌, ◌++◌, length, take, drop, codes, Some, None, Ok, refl, sym, ap, subst, ◌∙◌, append_assoc, arith}
use Rattle.std.specs.List.{AllPass, AllByRecursion, flat_map}
use Rattle.std.proofs.Math.Seq.{drop-append-add}
use Rattle.std.proofs.lemmas.Bool.{and_parts}
use Rattle.std.proofs.lemmas.Bool.Decides.{nat_tests}
use Rattle.std.proofs.lemmas.List.{length-append, take_at}
use Rattle.std.proofs.lemmas.List.Elements.{All-cons}
use Rattle.std.proofs.lemmas.List.Concat.{flat_map-cons}
use Rattle.rb_tags.specs.Bytes.{is_space, is_name_byte, is_value_byte, is_quote, after_front}
use Rattle.rb_tags.specs.Marks.{Mark, closing_at, tag_in, tag_at}
use Rattle.rb_tags.specs.BadMarks.{is_tag_byte}
use Rattle.rb_tags.specs.Grammar.{IsSpace, IsName, WrittenAttr, IsAttr, value_text, attr_text, WrittenStart, IsStart, start_of, WrittenEnd, IsEnd}
use Rattle.rb_tags.proofs.Closing.{further}
use Rattle.rb_tags.proofs.TakesTag.{slash}
use Rattle.rb_tags.proofs.TagParts.{further_both, over_bytes, over_quoted, here}
use Rattle.rb_tags.proofs.Again.{start_inside, start_again, end_again, name_first}

-- a part of a tag that is outside quoted parts at its end where it is so at its beginning, and in which the tag does not end
record Over (part : List ℕ) : Type 0 where
  over : (rest : List ℕ) → closing_at None (part ++ rest) ≡ further (length part) (closing_at None rest)

over_none : Over []
over_none = record { over = λ rest. over_bytes [] rest (λ i d lt. absurd (omega arith)) }

over_both : (a b : List ℕ) → Over a → Over b → Over (a ++ b)
over_both a b h k = record {
  over = λ rest.
      let size : length a + length b ≡ length (a ++ b) = sym (length-append a b) in
      ap (closing_at None) (append_assoc a b rest) ∙ h.over (b ++ rest) ∙ ap (further (length a)) (k.over rest) ∙ further_both (length a) (length b) (closing_at None rest) ∙ ap (λ (n : ℕ). further n (closing_at None rest)) size;
}

over_run : (p : ℕ → Bool) → ((b : ℕ) → p b ≡ true → is_tag_byte b ≡ true) → (bytes : List ℕ) → AllPass p bytes → Over bytes
over_run p fits bytes all = record { over = λ rest. over_bytes bytes rest (λ i d lt. fits _ (all i d lt)) }

over_value : (quote : ℕ) (inside : List ℕ) → is_quote quote ≡ true → AllPass (is_value_byte quote) inside → Over (quote ∷ (inside ++ quote ∷ []))
unfolding is_value_byte
over_value quote inside h all = record {
  over = λ rest.
      let cut : (quote ∷ (inside ++ quote ∷ [])) ++ rest ≡ quote ∷ (inside ++ quote ∷ rest) = ap (λ (t : List ℕ). quote ∷ t) (append_assoc inside (quote ∷ []) rest) in
      let size : suc (suc (length inside)) ≡ length (quote ∷ (inside ++ quote ∷ [])) = omega (arith, length-append inside (quote ∷ [])) in
      ap (closing_at None) cut ∙ over_quoted quote inside rest h (λ i d lt. (and_parts _ _ (all i d lt)).0) ∙ ap (λ (n : ℕ). further n (closing_at None rest)) size;
}

name_fits : (b : ℕ) → is_name_byte b ≡ true → is_tag_byte b ≡ true
unfolding is_name_byte is_quote
name_fits b h = grind (arith, nat_tests)

space_fits : (b : ℕ) → is_space b ≡ true → is_tag_byte b ≡ true
unfolding is_space is_quote
space_fits b h = grind (arith, nat_tests)

over_equals : Over (codes "=")
unfolding is_quote
over_equals = record { over = λ rest. over_bytes (codes "=") rest (All-cons (λ x. is_tag_byte x ≡ true) 61 [] refl (λ i d lt. absurd (omega arith))) }

over_slash : (closes : Bool) → Over (slash closes)
unfolding is_quote
over_slash true = record { over = λ rest. over_bytes (47 ∷ []) rest (All-cons (λ x. is_tag_byte x ≡ true) 47 [] refl (λ i d lt. absurd (omega arith))) }
over_slash false = over_none

over_end_slash : Over (47 ∷ [])
over_end_slash = over_slash true

over_space : (bytes : List ℕ) → IsSpace bytes → Over bytes
over_space bytes h = over_run is_space space_fits bytes h

over_name : (bytes : List ℕ) → IsName bytes → Over bytes
over_name bytes h = over_run is_name_byte name_fits bytes h.of_name_bytes

over_attr : (a : WrittenAttr) → IsAttr a → Over (attr_text a)
over_attr a h =
    let value = over_value a.quote (value_text a) h.quote h.value in
    over_both a.before _ (over_space a.before h.before) (over_both a.name _ (over_name a.name h.name) (over_both a.left _ (over_space a.left h.left) (over_both (codes "=") _ over_equals (over_both a.right _ (over_space a.right h.right) value))))

over_attrs : (attrs : List WrittenAttr) → AllByRecursion IsAttr attrs → Over (flat_map attr_text attrs)
over_attrs [] all = over_none
over_attrs (a ∷ attrs) all = subst (λ (t : List ℕ). Over t) (sym (flat_map-cons attr_text a attrs)) (over_both (attr_text a) (flat_map attr_text attrs) (over_attr a all.0) (over_attrs attrs all.1))

over_start : (s : WrittenStart) → IsStart s → Over (start_inside s)
unfolding start_inside
over_start s h = over_both s.name _ (over_name s.name h.name) (over_both (flat_map attr_text s.attrs) _ (over_attrs s.attrs h.attrs) (over_both s.after _ (over_space s.after h.after) (over_slash s.closes)))

over_end : (e : WrittenEnd) → IsEnd e → Over ((47 ∷ []) ++ (e.name ++ e.after))
over_end e h = over_both (47 ∷ []) _ over_end_slash (over_both e.name _ (over_name e.name h.name) (over_space e.after h.after))

-- a tag, from all that stands in it
whole_tag : (inside rest : List ℕ) (m : Mark) → Over inside → tag_in inside ≡ Some m → tag_at (inside ++ 62 ∷ rest) ≡ Ok (m, rest)
unfolding tag_at
whole_tag inside rest m over read =
    let end : length inside + 0 ≡ length inside = omega arith in
    let next : length inside + 1 ≡ suc (length inside) = omega arith in
    let closes : closing_at None (inside ++ 62 ∷ rest) ≡ Some (length inside) = over.over (62 ∷ rest) ∙ ap (further (length inside)) (here rest) ∙ ap (λ (n : ℕ). Some n) end in
    let taken : take (length inside) (inside ++ 62 ∷ rest) ≡ inside = take_at inside (62 ∷ rest) (length inside) refl in
    let left : drop (suc (length inside)) (inside ++ 62 ∷ rest) ≡ rest = ap (λ (n : ℕ). drop n (inside ++ 62 ∷ rest)) (sym next) ∙ drop-append-add inside (62 ∷ rest) 1 in
    rw (closes, taken, read, left) refl

start_read : (s : WrittenStart) → IsStart s → tag_in (start_inside s) ≡ Some (Mark.Start (start_of s))
unfolding tag_in start_inside after_front
start_read s h =
    let f = name_first s.name h.name in
    let behind = flat_map attr_text s.attrs ++ (s.after ++ slash s.closes) in
    let none : after_front (codes "/") (s.name ++ behind) ≡ None = ap (λ (t : List ℕ). after_front (codes "/") (t ++ behind)) f.text ∙ rw f.no_slash refl in
    rw (none, start_again s h) refl

end_read : (e : WrittenEnd) → IsEnd e → tag_in (47 ∷ (e.name ++ e.after)) ≡ Some (Mark.End e.name)
unfolding tag_in after_front
end_read e h = rw (end_again e h) refl

pub start_tag_again : (s : WrittenStart) (rest : List ℕ) → IsStart s → tag_at (start_inside s ++ 62 ∷ rest) ≡ Ok (Mark.Start (start_of s), rest)
start_tag_again s rest h = whole_tag (start_inside s) rest (Mark.Start (start_of s)) (over_start s h) (start_read s h)

pub end_tag_again : (e : WrittenEnd) (rest : List ℕ) → IsEnd e → tag_at ((47 ∷ (e.name ++ e.after)) ++ 62 ∷ rest) ≡ Ok (Mark.End e.name, rest)
end_tag_again e rest h = whole_tag (47 ∷ (e.name ++ e.after)) rest (Mark.End e.name) (over_end e h) (end_read e h)
