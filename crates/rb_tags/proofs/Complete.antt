-- What is written as the grammar says is read again.
use Rattle.std.proofs.Common.{◌≡◌, ◌≢◌, ℕ, ◌+◌, ◌-◌, true, false, eqb, List, [], ◌∷◌, ◌++◌, length, None, Result, Ok, refl, sym, ap, subst, ◌∙◌, arith, ◌⊎◌, inl, inr}
use Rattle.std.proofs.lemmas.Bool.Decides.{nat_tests}
use Rattle.std.proofs.lemmas.List.{append-nil}
use Rattle.std.proofs.lemmas.List.Elements.{All-head}
use Rattle.rb_tags.specs.declared.tag.Tag.{Tag}
use Rattle.rb_tags.specs.declared.read.TagFault.{TagFault}
use Rattle.rb_tags.specs.Bytes.{is_space, after_front}
use Rattle.rb_tags.specs.Seen.{OpenElement, Seen, read_text, finished_in, finished}
use Rattle.rb_tags.specs.Tags.{order_mark, tags_of}
use Rattle.rb_tags.specs.Grammar.{IsSpace, Part, Nest, Accepts}
use Rattle.rb_tags.proofs.SoFar.{after_text, step}
use Rattle.rb_tags.specs.Refusals.{IsLead, count_in, Reached}
use Rattle.rb_tags.proofs.Closes.{not_front}
use Rattle.rb_tags.proofs.Arrives.{spaces_are_text, text_again, part_cut, seen_at}
use Rattle.rb_tags.proofs.Parts.{texts}
use Rattle.rb_result.specs.Steps.{◌>>=◌}
use Rattle.rb_result.proofs.Results.{same_ok}

finished_again : (seen : Seen) (size : ℕ) → seen.open_elements ≡ [] → seen.tags ≢ [] → finished seen size ≡ Ok seen.tags
unfolding finished
finished_again seen size none some = ap (λ (es : List OpenElement). finished_in es seen.tags size) none ∙ by_tags seen.tags some
  where
    by_tags : (tags : List Tag) → tags ≢ [] → finished_in [] tags size ≡ Ok tags
    by_tags [] h = absurd (h refl)
    by_tags (t ∷ tags) h = refl

-- no byte order mark
abbrev OtherFirst : List ℕ → Type 0
OtherFirst [] = Unit {0}
OtherFirst (b ∷ bs) = eqb b 239 ≡ false

no_order_mark : (bytes : List ℕ) → OtherFirst bytes → after_front order_mark bytes ≡ None
unfolding after_front
no_order_mark [] h = refl
no_order_mark (b ∷ bs) h = rw h refl

space_first : (b : ℕ) → is_space b ≡ true → eqb b 239 ≡ false
unfolding is_space
space_first b h = grind (arith, nat_tests)

spaces_first : (space rest : List ℕ) → IsSpace space → OtherFirst rest → OtherFirst (space ++ rest)
spaces_first [] rest all h = h
spaces_first (b ∷ space) rest all h = space_first b (All-head (λ x. is_space x ≡ true) b space all)

parts_first : (place count : ℕ) (parts : List Part) (last : List ℕ) → Nest place count [] parts → IsSpace last → OtherFirst (texts parts ++ last)
parts_first place count [] last nest space = subst (λ (t : List ℕ). OtherFirst t) (append-nil last) (spaces_first last [] space tt)
parts_first place count (p ∷ parts) last nest space =
    let cut = part_cut p parts last in
    elim nest.0 [
      | inl some ↦ absurd (some refl)
      | inr white ↦ subst (λ (t : List ℕ). OtherFirst t) (sym cut.1) (spaces_first p.before (60 ∷ (cut.0 ++ (texts parts ++ last))) white refl)
    ]

accepted_lead : (bytes lead : List ℕ) (parts : List Part) (last : List ℕ) → (lead ≡ []) ⊎ (lead ≡ order_mark) → Nest (length lead) 0 [] parts → IsSpace last → bytes ≡ lead ++ (texts parts ++ last) → IsLead bytes lead
accepted_lead bytes lead parts last (inr mark) nest space text = inl mark
accepted_lead bytes lead parts last (inl none) nest space text =
    let whole : bytes ≡ texts parts ++ last = text ∙ ap (λ (t : List ℕ). t ++ (texts parts ++ last)) none in
    let other = no_order_mark bytes (subst (λ (t : List ℕ). OtherFirst t) (sym whole) (parts_first (length lead) 0 parts last nest space)) in
    inr (none, λ rest begins. not_front order_mark bytes other (record { rest = rest; text = begins }))

pub complete : (bytes : List ℕ) (tags : List Tag) → Accepts bytes tags → tags_of bytes ≡ Ok tags
complete bytes tags h =
    let r : Reached bytes (length h.lead + length (texts h.parts)) (count_in 0 h.parts) [] h.last = record {
      utf8 = h.utf8;
      lead = h.lead;
      parts = h.parts;
      lead_is = accepted_lead bytes h.lead h.parts h.last h.lead_is h.nest h.last_space h.text;
      are_parts = h.are_parts;
      nest = h.nest;
      text = h.text;
      place_is = refl;
      count_is = refl;
      elements_are = sym h.closed;
    } in
    let a = seen_at bytes (length h.lead + length (texts h.parts)) (count_in 0 h.parts) [] h.last r in
    let at = length bytes - length h.last in
    let text : read_text a.seen at h.last ≡ Ok [] = ap (read_text a.seen at) (sym (append-nil h.last)) ∙ text_again a.seen at h.last [] (spaces_are_text h.last h.last_space) tt (inr h.last_space) in
    a.goes
    ∙ step (length bytes) a.left a.seen h.last
    ∙ ap (λ (t : Result (List ℕ) TagFault). t >>= λ rest. after_text (length bytes) a.left a.seen rest) text
    ∙ finished_again a.seen (length bytes) a.elements_are (λ none. h.some (h.tags_are ∙ sym a.tags ∙ none))
    ∙ ap (λ (ts : List Tag). Ok ts) (a.tags ∙ sym h.tags_are)

pub only : (bytes : List ℕ) (tags others : List Tag) → Accepts bytes tags → Accepts bytes others → others ≡ tags
only bytes tags others a b = same_ok others tags (sym (complete bytes others b) ∙ complete bytes tags a)
