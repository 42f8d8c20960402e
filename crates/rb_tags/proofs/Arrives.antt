-- Parts that nest are read one after another.
use Rattle.std.proofs.Common.{◌≡◌, ◌≢◌, ℕ, suc, ◌+◌, ◌-◌, ◌<◌, ◌≤◌, Bool, true, false, List, [], ◌∷◌, ◌++◌, length, codes, Option, Result, Ok, refl, sym, ap, subst, ◌∙◌, append_assoc, arith, inl, inr}
use Rattle.std.specs.List.{take_while, AllPass, AllByRecursion}
use Rattle.std.proofs.lemmas.Bool.Decides.{nat_tests}
use Rattle.std.proofs.lemmas.List.{length-append, append-nil}
use Rattle.rb_tags.specs.declared.tag.Tag.{Tag}
use Rattle.rb_tags.specs.declared.read.TagFault.{TagFault}
use Rattle.rb_tags.specs.Bytes.{is_space, is_text_byte, past, after_front}
use Rattle.rb_tags.specs.Seen.{OpenElement, Seen, nothing_seen, marked, marked_at, read_mark, read_text}
use Rattle.rb_tags.specs.Tags.{tags_from, order_mark, behind_order_mark, tags_of_text, tags_of}
use Rattle.rb_tags.specs.Grammar.{IsSpace, WrittenMark, Instruction, Comment, Data, Start, End, IsMark, mark_text, mark_of_written, Part, IsPart, part_text, MayStand, MayFollow, elements_after, count_after, Nest, left_open, tags_of_mark, tags_in}
use Rattle.rb_tags.proofs.Runs.{Stops, run_again, past_again, front_found}
use Rattle.rb_tags.proofs.Between.{text_inside, text_is_space}
use Rattle.rb_tags.proofs.SoFar.{after_text, step}
use Rattle.rb_tags.proofs.Valid.{tags_of_utf8}
use Rattle.rb_tags.proofs.MarkLaws.{mark_complete, some_text}
use Rattle.rb_tags.specs.Refusals.{IsLead, Reached}
use Rattle.rb_tags.proofs.Closes.{no_front}
use Rattle.rb_tags.proofs.Parts.{texts, one_more, count_is}
use Rattle.rb_tags.proofs.Follows.{Moves, mark_moves, mark_taken}
use Rattle.rb_result.specs.Steps.{◌>>=◌}

space_is_text : (b : ℕ) → is_space b ≡ true → is_text_byte b ≡ true
unfolding is_space is_text_byte
space_is_text b h = grind (arith, nat_tests)

pub spaces_are_text : (space : List ℕ) → IsSpace space → AllPass is_text_byte space
spaces_are_text space all = λ i d lt. space_is_text _ (all i d lt)

nothing_past : (p : ℕ → Bool) (run : List ℕ) → AllPass p run → past p run ≡ []
nothing_past p run all = ap (past p) (sym (append-nil run)) ∙ past_again p run [] all tt

pub text_again : (seen : Seen) (place : ℕ) (before rest : List ℕ) → AllPass is_text_byte before → Stops is_text_byte rest → MayStand seen.open_elements before → read_text seen place (before ++ rest) ≡ Ok rest
text_again seen place before rest all stops (inl some) =
    text_inside seen place (before ++ rest) (some_open seen.open_elements some) ∙ ap (λ (r : List ℕ). Ok r) (past_again is_text_byte before rest all stops)
  where
    some_open : (elements : List OpenElement) → elements ≢ [] → 0 < length elements
    some_open [] h = absurd (h refl)
    some_open (e ∷ elements) h = omega arith
text_again seen place before rest all stops (inr space) =
    let run = run_again is_text_byte before rest all stops in
    let none : length (past is_space (take_while is_text_byte (before ++ rest))) ≡ 0 = ap (λ (t : List ℕ). length (past is_space t)) run ∙ ap length (nothing_past is_space before space) in
    text_is_space seen place (before ++ rest) none ∙ ap (λ (r : List ℕ). Ok r) (past_again is_text_byte before rest all stops)

mark_front : (w : WrittenMark) → (tail : List ℕ) × (mark_text w ≡ 60 ∷ tail)
mark_front (Instruction body) = (_, refl)
mark_front (Comment body) = (_, refl)
mark_front (Data body) = (_, refl)
mark_front (Start s) = (_, refl)
mark_front (End e) = (_, refl)

pub no_text_byte : is_text_byte 60 ≡ false
unfolding is_text_byte
no_text_byte = refl

read_mark_again : (seen now : Seen) (place : ℕ) (w : WrittenMark) (behind others : List ℕ) → IsMark w → codes "<" ++ behind ≡ mark_text w ++ others → marked seen place (mark_of_written w) ≡ Ok now → read_mark seen place behind ≡ Ok (now, others)
unfolding read_mark marked_at
read_mark_again seen now place w behind others is text taken = rw (mark_complete w behind others is text, taken) refl

-- the first part of several
pub part_cut : (p : Part) (parts : List Part) (last : List ℕ) → (tail : List ℕ) × (texts (p ∷ parts) ++ last ≡ p.before ++ 60 ∷ (tail ++ (texts parts ++ last))) × (mark_text p.mark ≡ 60 ∷ tail)
part_cut p parts last =
    let front = mark_front p.mark in
    let others = texts parts ++ last in
    (front.0, append_assoc (part_text p) (texts parts) last ∙ append_assoc p.before (mark_text p.mark) others ∙ ap (λ (t : List ℕ). p.before ++ (t ++ others)) front.1, front.1)

-- a part that may stand is read
pub record Taken (size n : ℕ) (p : Part) (parts : List Part) (rest : List ℕ) (seen : Seen) (place : ℕ) : Type 0 where
  pub now : Seen
  pub moves : Moves seen (place + length p.before) p.mark now
  pub goes : tags_from size (suc n) seen (texts (p ∷ parts) ++ rest) ≡ tags_from size n now (texts parts ++ rest)

part_taken : (size n : ℕ) (p : Part) (parts : List Part) (rest : List ℕ) (seen : Seen) (place : ℕ) → IsPart p → MayStand seen.open_elements p.before → MayFollow (length seen.tags) seen.open_elements p.mark → size ≡ place + length (texts (p ∷ parts) ++ rest)
    → Taken size n p parts rest seen place
part_taken size n p parts rest seen place is stand follow size_is =
    let w = p.mark in
    let others = texts parts ++ rest in
    let cut = part_cut p parts rest in
    let behind = cut.0 ++ others in
    let left = texts (p ∷ parts) ++ rest in
    let here = place + length p.before in
    let longer = ap length cut.1 ∙ length-append p.before (60 ∷ behind) in
    let at_is : size - length (60 ∷ behind) ≡ here = omega arith in
    let text : read_text seen (size - length left) left ≡ Ok (60 ∷ behind) = ap (read_text seen (size - length left)) cut.1 ∙ text_again seen (size - length left) p.before (60 ∷ behind) is.before no_text_byte stand in
    let written : codes "<" ++ behind ≡ mark_text w ++ others = ap (λ (t : List ℕ). t ++ others) (sym cut.2) in
    let taken = mark_taken seen here w follow in
    let read : read_mark seen (size - length (60 ∷ behind)) behind ≡ Ok (taken.0, others) = ap (λ (q : ℕ). read_mark seen q behind) at_is ∙ read_mark_again seen taken.0 here w behind others is.mark written taken.1 in
    record {
      now = taken.0;
      moves = mark_moves seen here w taken.0 taken.1;
      goes = step size n seen left
          ∙ ap (λ (r : Result (List ℕ) TagFault). r >>= λ rest. after_text size n seen rest) text
          ∙ ap (λ (r : Result (Seen × List ℕ) TagFault). r >>= λ mark. tags_from size n mark.0 mark.1) read;
    }

-- what is seen after parts
pub record Arrives (size n : ℕ) (parts : List Part) (rest : List ℕ) (seen : Seen) (place : ℕ) : Type 0 where
  pub now : Seen
  pub tags : now.tags ≡ seen.tags ++ tags_in place seen.open_elements parts
  pub elements : now.open_elements ≡ left_open place seen.open_elements parts
  pub goes : tags_from size (length parts + n) seen (texts parts ++ rest) ≡ tags_from size n now rest

pub arrives : (size n : ℕ) (parts : List Part) (rest : List ℕ) (seen : Seen) (place : ℕ) → AllByRecursion IsPart parts → Nest place (length seen.tags) seen.open_elements parts → size ≡ place + length (texts parts ++ rest) → Arrives size n parts rest seen place
arrives size n [] rest seen place all nest size_is =
    let none : 0 + n ≡ n = omega arith in
    record { now = seen; tags = sym (append-nil seen.tags); elements = refl; goes = ap (λ (m : ℕ). tags_from size m seen rest) none }
arrives size n (p ∷ parts) rest seen place all nest size_is =
    let here = place + length p.before in
    let after = place + length (part_text p) in
    let t = part_taken size (length parts + n) p parts rest seen place all.0 nest.0 nest.1 size_is in
    let one = tags_of_mark here (length seen.open_elements) p.mark in
    let next_open = elements_after here seen.open_elements p.mark in
    let count_now : count_after (length seen.tags) p.mark ≡ length t.now.tags = one_more p.mark here (length seen.open_elements) (length seen.tags) ∙ sym (length-append seen.tags one) ∙ sym (ap length t.moves.tags) in
    let nest2 = subst (λ (c : ℕ). Nest after c next_open parts) count_now nest.2 in
    let nest3 = subst (λ (es : List OpenElement). Nest after (length t.now.tags) es parts) (sym t.moves.elements) nest2 in
    let size2 : size ≡ after + length (texts parts ++ rest) = omega (arith, length-append (part_text p) (texts parts), length-append (texts (p ∷ parts)) rest, length-append (texts parts) rest) in
    let next = arrives size n parts rest t.now after all.1 nest3 size2 in
    let more : suc (length parts) + n ≡ suc (length parts + n) = omega arith in
    record {
      now = next.now;
      tags = next.tags ∙ ap (λ (es : List OpenElement). t.now.tags ++ tags_in after es parts) t.moves.elements ∙ ap (λ (ts : List Tag). ts ++ tags_in after next_open parts) t.moves.tags ∙ append_assoc seen.tags one (tags_in after next_open parts);
      elements = next.elements ∙ ap (λ (es : List OpenElement). left_open after es parts) t.moves.elements;
      goes = ap (λ (m : ℕ). tags_from size m seen (texts (p ∷ parts) ++ rest)) more ∙ t.goes ∙ next.goes;
    }

parts_fewer : (parts : List Part) → length parts ≤ length (texts parts)
parts_fewer [] = omega arith
parts_fewer (p ∷ parts) = omega (arith, parts_fewer parts, some_text p.mark, length-append p.before (mark_text p.mark), length-append (part_text p) (texts parts))

-- what is seen at a place of a file that is reached
pub record SeenAt (bytes : List ℕ) (place count : ℕ) (elements : List OpenElement) (rest : List ℕ) (r : Reached bytes place count elements rest) : Type 0 where
  pub seen : Seen
  pub left : ℕ
  pub tags : seen.tags ≡ tags_in (length r.lead) [] r.parts
  pub count_is : length seen.tags ≡ count
  pub elements_are : seen.open_elements ≡ elements
  pub goes : tags_of bytes ≡ tags_from (length bytes) (suc left) seen rest

left_again : (bytes lead rest : List ℕ) → IsLead bytes lead → bytes ≡ lead ++ rest → behind_order_mark (after_front order_mark bytes) bytes ≡ rest
left_again bytes lead rest (inl mark) text =
    let whole : bytes ≡ order_mark ++ rest = text ∙ ap (λ (t : List ℕ). t ++ rest) mark in
    ap (λ (o : Option (List ℕ)). behind_order_mark o bytes) (ap (after_front order_mark) whole ∙ front_found order_mark rest)
left_again bytes lead rest (inr none) text =
    ap (λ (o : Option (List ℕ)). behind_order_mark o bytes) (no_front order_mark bytes (λ b. none.1 b.rest b.text)) ∙ text ∙ ap (λ (t : List ℕ). t ++ rest) none.0

pub seen_at : (bytes : List ℕ) (place count : ℕ) (elements : List OpenElement) (rest : List ℕ) (r : Reached bytes place count elements rest) → SeenAt bytes place count elements rest r
unfolding tags_of_text
seen_at bytes place count elements rest r =
    let start = length r.lead in
    let left = length bytes - length r.parts in
    let size : length bytes ≡ start + length (texts r.parts ++ rest) = ap length r.text ∙ length-append r.lead (texts r.parts ++ rest) in
    let fewer = parts_fewer r.parts in
    let marks : suc (length bytes) ≡ length r.parts + suc left = omega (arith, length-append (texts r.parts) rest) in
    let a = arrives (length bytes) (suc left) r.parts rest nothing_seen start r.are_parts r.nest size in
    record {
      seen = a.now;
      left = left;
      tags = a.tags;
      count_is = ap length a.tags ∙ sym (r.count_is ∙ omega (arith, count_is start 0 [] r.parts));
      elements_are = a.elements ∙ sym r.elements_are;
      goes = tags_of_utf8 bytes r.utf8
          ∙ ap (tags_from (length bytes) (suc (length bytes)) nothing_seen) (left_again bytes r.lead (texts r.parts ++ rest) r.lead_is r.text)
          ∙ ap (λ (m : ℕ). tags_from (length bytes) m nothing_seen (texts r.parts ++ rest)) marks
          ∙ a.goes;
    }
