-- One more part of a file.
use Rattle.std.proofs.Common.{◌≡◌, ℕ, ◌+◌, List, [], ◌∷◌, ◌++◌, length, refl, sym, ap, ◌∙◌, append_assoc, arith}
use Rattle.std.specs.List.{AllByRecursion, flat_map}
use Rattle.std.proofs.lemmas.List.{length-append, append-nil}
use Rattle.std.proofs.lemmas.List.Concat.{flat_map-cons}
use Rattle.rb_tags.specs.declared.tag.Tag.{Tag}
use Rattle.rb_tags.specs.Seen.{OpenElement}
use Rattle.rb_tags.specs.Grammar.{WrittenMark, Instruction, Comment, Data, Start, End, Part, IsPart, part_text, MayStand, MayFollow, count_after, elements_after, Nest, left_open, tags_of_mark, tags_in}
use Rattle.rb_tags.specs.Refusals.{count_in}

abbrev pub texts : List Part → List ℕ
texts parts = flat_map part_text parts

pub texts_push : (parts : List Part) (p : Part) → texts (parts ++ p ∷ []) ≡ texts parts ++ part_text p
texts_push [] p = append-nil (part_text p)
texts_push (q ∷ parts) p = ap (λ (t : List ℕ). part_text q ++ t) (texts_push parts p) ∙ sym (append_assoc (part_text q) (texts parts) (part_text p))

pub are_parts_push : (parts : List Part) (p : Part) → AllByRecursion IsPart parts → IsPart p → AllByRecursion IsPart (parts ++ p ∷ [])
are_parts_push [] p all one = (one, tt)
are_parts_push (q ∷ parts) p all one = (all.0, are_parts_push parts p all.1 one)

abbrev pub after_all : ℕ → List Part → ℕ
after_all place parts = place + length (texts parts)

after_cons : (place : ℕ) (q : Part) (parts : List Part) → after_all (place + length (part_text q)) parts ≡ after_all place (q ∷ parts)
after_cons place q parts = omega (arith, ap length (flat_map-cons part_text q parts), length-append (part_text q) (texts parts))

nothing_more : (place : ℕ) → place ≡ after_all place []
nothing_more place = omega arith

pub open_push : (place : ℕ) (elements : List OpenElement) (parts : List Part) (p : Part) → left_open place elements (parts ++ p ∷ []) ≡ elements_after (after_all place parts + length p.before) (left_open place elements parts) p.mark
open_push place elements [] p = ap (λ (n : ℕ). elements_after (n + length p.before) elements p.mark) (nothing_more place)
open_push place elements (q ∷ parts) p =
    let next = elements_after (place + length q.before) elements q.mark in
    open_push (place + length (part_text q)) next parts p
    ∙ ap (λ (n : ℕ). elements_after (n + length p.before) (left_open (place + length (part_text q)) next parts) p.mark) (after_cons place q parts)

pub count_push : (count : ℕ) (parts : List Part) (p : Part) → count_in count (parts ++ p ∷ []) ≡ count_after (count_in count parts) p.mark
count_push count [] p = refl
count_push count (q ∷ parts) p = count_push (count_after count q.mark) parts p

pub tags_push : (place : ℕ) (elements : List OpenElement) (parts : List Part) (p : Part) → tags_in place elements (parts ++ p ∷ []) ≡ tags_in place elements parts ++ tags_of_mark (after_all place parts + length p.before) (length (left_open place elements parts)) p.mark
tags_push place elements [] p = append-nil (tags_of_mark (place + length p.before) (length elements) p.mark) ∙ ap (λ (n : ℕ). tags_of_mark (n + length p.before) (length elements) p.mark) (nothing_more place)
tags_push place elements (q ∷ parts) p =
    let next = elements_after (place + length q.before) elements q.mark in
    let one = tags_of_mark (place + length q.before) (length elements) q.mark in
    let after = place + length (part_text q) in
    let depth = length (left_open after next parts) in
    ap (λ (ts : List Tag). one ++ ts) (tags_push after next parts p)
    ∙ sym (append_assoc one (tags_in after next parts) (tags_of_mark (after_all after parts + length p.before) depth p.mark))
    ∙ ap (λ (n : ℕ). (one ++ tags_in after next parts) ++ tags_of_mark (n + length p.before) depth p.mark) (after_cons place q parts)

pub nest_push : (place count : ℕ) (elements : List OpenElement) (parts : List Part) (p : Part) → Nest place count elements parts → MayStand (left_open place elements parts) p.before → MayFollow (count_in count parts) (left_open place elements parts) p.mark → Nest place count elements (parts ++ p ∷ [])
nest_push place count elements [] p nest stand follow = (stand, follow, tt)
nest_push place count elements (q ∷ parts) p nest stand follow = (nest.0, nest.1, nest_push (place + length (part_text q)) (count_after count q.mark) (elements_after (place + length q.before) elements q.mark) parts p nest.2 stand follow)

pub one_more : (m : WrittenMark) (place depth count : ℕ) → count_after count m ≡ count + length (tags_of_mark place depth m)
one_more (Instruction body) place depth count = omega arith
one_more (Comment body) place depth count = omega arith
one_more (Data body) place depth count = omega arith
one_more (Start s) place depth count = omega arith
one_more (End e) place depth count = omega arith

-- how many start tags there are, by their tags
pub count_is : (place count : ℕ) (elements : List OpenElement) (parts : List Part) → count_in count parts ≡ count + length (tags_in place elements parts)
count_is place count elements [] = omega arith
count_is place count elements (q ∷ parts) =
    let next = elements_after (place + length q.before) elements q.mark in
    let others = count_is (place + length (part_text q)) (count_after count q.mark) next parts in
    others ∙ omega (arith, one_more q.mark (place + length q.before) (length elements) count, length-append (tags_of_mark (place + length q.before) (length elements) q.mark) (tags_in (place + length (part_text q)) next parts))
