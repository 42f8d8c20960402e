-- What is read of a file, part by part.
use Rattle.std.proofs.Common.{◌≡◌, ℕ, suc, ◌+◌, ◌-◌, ◌<◌, ◌≤◌, Bool, true, false, cond, eqb, not, ◌&&◌, List, [], ◌∷◌, length, Option, Some, None, Result, Ok, Err, refl, sym, ap, ◌∙◌, arith, codes, ◌⊎◌, inl, inr}
use Rattle.std.specs.List.{take_while, list_all}
use Rattle.std.proofs.lemmas.Bool.{eqb-true}
use Rattle.rb_tags.specs.declared.tag.Tag.{Tag}
use Rattle.rb_tags.specs.declared.read.TagFault.{TagFault}
use Rattle.rb_tags.specs.declared.read.TagKind.TheVariants.{BadMark}
use Rattle.rb_tags.specs.Faults.{no_memory, fault_at}
use Rattle.rb_tags.specs.Bytes.{is_space, is_text_byte, past, after_front, if_more}
use Rattle.rb_tags.specs.Marks.{Mark, mark_at}
use Rattle.rb_tags.specs.Seen.{Seen, nothing_seen, marked, marked_at, read_mark, read_text, finished}
use Rattle.rb_tags.specs.Tags.{tags_from, behind_order_mark, order_mark, tags_of_text}
use Rattle.rb_tags.proofs.Runs.{Stops, past_stops}
use Rattle.rb_tags.proofs.Steps.{past-length, front_takes}
use Rattle.rb_tags.proofs.MarkLaws.{mark_shortens}
use Rattle.rb_result.specs.Steps.{◌>>=◌}
use Rattle.rb_result.proofs.Results.{then-ok, unless-ok, same_ok, placed-ok}

-- what a mark is read as, and what was seen then
pub record ReadsMark (seen : Seen) (place : ℕ) (bytes : List ℕ) (now : Seen) (rest : List ℕ) : Type 0 where
  pub mark : Mark
  pub is_mark : mark_at bytes ≡ Ok (mark, rest)
  pub moves : marked seen place mark ≡ Ok now

pub reads_mark : (seen : Seen) (place : ℕ) (bytes : List ℕ) (now : Seen) (rest : List ℕ) → read_mark seen place bytes ≡ Ok (now, rest) → ReadsMark seen place bytes now rest
unfolding read_mark marked_at
reads_mark seen place bytes now rest e =
    let m = then-ok (mark_at bytes) (λ mark. marked seen place mark.0 >>= λ now. Ok (now, mark.1)) (now, rest) (placed-ok fault_at place (marked_at seen place bytes) (now, rest) e) in
    let n = then-ok (marked seen place m.0.0) (λ now. Ok (now, m.0.1)) (now, rest) m.2 in
    let made : Seen × List ℕ = (n.0, m.0.1) in
    let same : made ≡ (now, rest) = same_ok made (now, rest) n.2 in
    let now_is : n.0 ≡ now = ap (λ (y : Seen × List ℕ). y.0) same in
    let rest_is : m.0.1 ≡ rest = ap (λ (y : Seen × List ℕ). y.1) same in
    record {
      mark = m.0.0;
      is_mark = m.1 ∙ ap (λ (r : List ℕ). Ok (m.0.0, r)) rest_is;
      moves = n.1 ∙ ap (λ (s : Seen). Ok s) now_is;
    }

pub read_no_longer : (seen : Seen) (place : ℕ) (bytes : List ℕ) (now : Seen) (rest : List ℕ) → read_mark seen place bytes ≡ Ok (now, rest) → length rest ≤ length bytes
read_no_longer seen place bytes now rest e = let r = reads_mark seen place bytes now rest e in let less = mark_shortens bytes r.mark rest r.is_mark in omega arith

pub text_rest : (seen : Seen) (place : ℕ) (bytes rest : List ℕ) → read_text seen place bytes ≡ Ok rest → rest ≡ past is_text_byte bytes
unfolding read_text
text_rest seen place bytes rest e =
    let text = take_while is_text_byte bytes in
    let t = unless-ok (eqb (length seen.open_elements) 0 && not (list_all is_space text)) (fault_at BadMark (place + length (take_while is_space text))) (Ok (past is_text_byte bytes)) rest e in
    sym (same_ok (past is_text_byte bytes) rest t.1)

-- after text there is a mark or nothing
pub mark_begins : (bytes behind : List ℕ) → after_front (codes "<") bytes ≡ Some behind → bytes ≡ 60 ∷ behind
unfolding after_front
mark_begins [] behind e = absurd cc
mark_begins (b ∷ bs) behind e = by_test (eqb b 60) refl e
  where
    by_test : (t : Bool) → eqb b 60 ≡ t → cond t (Some bs) None ≡ Some behind → b ∷ bs ≡ 60 ∷ behind
    by_test true h given = let is : b ≡ 60 = eqb-true b 60 h in cc
    by_test false h given = absurd cc

first_is_mark : (b : ℕ) (bs : List ℕ) → is_text_byte b ≡ false → after_front (codes "<") (b ∷ bs) ≡ None → ⊥
unfolding is_text_byte after_front
first_is_mark b bs h e = by_test (eqb b 60) h e
  where
    by_test : (t : Bool) → not t ≡ false → cond t (Some bs) None ≡ None → ⊥
    by_test true given none = absurd cc
    by_test false given none = absurd cc

none_left : (rest : List ℕ) → Stops is_text_byte rest → after_front (codes "<") rest ≡ None → rest ≡ []
none_left [] h e = refl
none_left (b ∷ bs) h e = absurd (first_is_mark b bs h e)

pub nothing_left : (bytes : List ℕ) → after_front (codes "<") (past is_text_byte bytes) ≡ None → past is_text_byte bytes ≡ []
nothing_left bytes e = none_left (past is_text_byte bytes) (past_stops is_text_byte bytes) e

-- what was read of the bytes so far, and what reading what is left gives
pub record LeftSoFar (bytes : List ℕ) (seen : Seen) (left : List ℕ) : Type 0 where
  pub marks : ℕ
  pub enough : length left < marks
  pub within : length left ≤ length bytes
  pub so_far : tags_from (length bytes) marks seen left ≡ tags_of_text bytes

pub left_begin : (bytes : List ℕ) → LeftSoFar bytes nothing_seen (behind_order_mark (after_front order_mark bytes) bytes)
unfolding tags_of_text
left_begin bytes =
    let within = by_case (after_front order_mark bytes) refl in
    record { marks = suc (length bytes); enough = omega arith; within = within; so_far = refl }
  where
    by_case : (o : Option (List ℕ)) → after_front order_mark bytes ≡ o → length (behind_order_mark o bytes) ≤ length bytes
    by_case (Some rest) is = omega (arith, ap length (front_takes order_mark bytes rest is))
    by_case None is = omega arith

abbrev pub after_text : ℕ → ℕ → Seen → List ℕ → Result (List Tag) TagFault
after_text size n seen rest = if_more rest (finished seen size) λ behind. read_mark seen (size - length rest) behind >>= λ mark. tags_from size n mark.0 mark.1

pub step : (size n : ℕ) (seen : Seen) (left : List ℕ) → tags_from size (suc n) seen left ≡ (read_text seen (size - length left) left >>= λ rest. after_text size n seen rest)
unfolding tags_from
step size n seen left = refl

-- the text before a mark, and the mark
pub record Left (bytes : List ℕ) (seen : Seen) (left rest : List ℕ) : Type 0 where
  pub n : ℕ
  pub enough : length left ≤ n
  pub shorter : length rest ≤ length left
  pub within : length left ≤ length bytes
  pub rest_is : rest ≡ past is_text_byte left
  pub so_far : after_text (length bytes) n seen rest ≡ tags_of_text bytes

pub text_more : (bytes : List ℕ) (seen : Seen) (left rest : List ℕ) → LeftSoFar bytes seen left → read_text seen (length bytes - length left) left ≡ Ok rest → Left bytes seen left rest
text_more bytes seen left rest h e =
    let enough = h.enough in
    let n = h.marks - 1 in
    let is : h.marks ≡ suc n = omega arith in
    let rest_is = text_rest seen (length bytes - length left) left rest e in
    let one : tags_from (length bytes) h.marks seen left ≡ after_text (length bytes) n seen rest = ap (λ (m : ℕ). tags_from (length bytes) m seen left) is ∙ step (length bytes) n seen left ∙ rw e refl in
    record {
      n = n;
      enough = omega arith;
      shorter = omega (arith, ap length rest_is, past-length is_text_byte left);
      within = h.within;
      rest_is = rest_is;
      so_far = sym one ∙ h.so_far;
    }

pub text_fails : (bytes : List ℕ) (seen : Seen) (left : List ℕ) (f : TagFault) → LeftSoFar bytes seen left → read_text seen (length bytes - length left) left ≡ Err f → tags_of_text bytes ≡ Err f
text_fails bytes seen left f h e =
    let enough = h.enough in
    let n = h.marks - 1 in
    let is : h.marks ≡ suc n = omega arith in
    let one : tags_from (length bytes) h.marks seen left ≡ Err f = ap (λ (m : ℕ). tags_from (length bytes) m seen left) is ∙ step (length bytes) n seen left ∙ rw e refl in
    sym h.so_far ∙ one

pub text_refused : (bytes : List ℕ) (seen : Seen) (left : List ℕ) (f : TagFault) → LeftSoFar bytes seen left → (f ≡ no_memory) ⊎ (read_text seen (length bytes - length left) left ≡ Err f) → (f ≡ no_memory) ⊎ (tags_of_text bytes ≡ Err f)
text_refused bytes seen left f h (inl memory) = inl memory
text_refused bytes seen left f h (inr fault) = inr (text_fails bytes seen left f h fault)

pub mark_more : (bytes : List ℕ) (seen now : Seen) (left rest behind after : List ℕ) → Left bytes seen left rest → rest ≡ 60 ∷ behind → read_mark seen (length bytes - length rest) behind ≡ Ok (now, after) → LeftSoFar bytes now after
mark_more bytes seen now left rest behind after h is e =
    let enough = h.enough in
    let shorter = h.shorter in
    let within = h.within in
    let less = read_no_longer seen (length bytes - length rest) behind now after e in
    let rest_length : length rest ≡ suc (length behind) = ap length is in
    let e2 : read_mark seen (length bytes - suc (length behind)) behind ≡ Ok (now, after) = ap (λ (m : ℕ). read_mark seen (length bytes - m) behind) (sym rest_length) ∙ e in
    let one : after_text (length bytes) h.n seen rest ≡ tags_from (length bytes) h.n now after = ap (λ (r : List ℕ). after_text (length bytes) h.n seen r) is ∙ rw e2 refl in
    record { marks = h.n; enough = omega arith; within = omega arith; so_far = sym one ∙ h.so_far }

pub mark_fails : (bytes : List ℕ) (seen : Seen) (left rest behind : List ℕ) (f : TagFault) → Left bytes seen left rest → rest ≡ 60 ∷ behind → read_mark seen (length bytes - length rest) behind ≡ Err f → tags_of_text bytes ≡ Err f
mark_fails bytes seen left rest behind f h is e =
    let rest_length : length rest ≡ suc (length behind) = ap length is in
    let e2 : read_mark seen (length bytes - suc (length behind)) behind ≡ Err f = ap (λ (m : ℕ). read_mark seen (length bytes - m) behind) (sym rest_length) ∙ e in
    let one : after_text (length bytes) h.n seen rest ≡ Err f = ap (λ (r : List ℕ). after_text (length bytes) h.n seen r) is ∙ rw e2 refl in
    sym h.so_far ∙ one

pub mark_refused : (bytes : List ℕ) (seen : Seen) (left rest behind : List ℕ) (f : TagFault) → Left bytes seen left rest → rest ≡ 60 ∷ behind → (f ≡ no_memory) ⊎ (read_mark seen (length bytes - length rest) behind ≡ Err f) → (f ≡ no_memory) ⊎ (tags_of_text bytes ≡ Err f)
mark_refused bytes seen left rest behind f h is (inl memory) = inl memory
mark_refused bytes seen left rest behind f h is (inr fault) = inr (mark_fails bytes seen left rest behind f h is fault)

pub left_end : (bytes : List ℕ) (seen : Seen) (left rest : List ℕ) → Left bytes seen left rest → after_front (codes "<") rest ≡ None → finished seen (length bytes) ≡ tags_of_text bytes
left_end bytes seen left rest h none =
    let nothing : rest ≡ [] = h.rest_is ∙ nothing_left left (ap (after_front (codes "<")) (sym h.rest_is) ∙ none) in
    ap (λ (r : List ℕ). after_text (length bytes) h.n seen r) (sym nothing) ∙ h.so_far
