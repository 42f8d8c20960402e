-- The first line of an input, and what is behind it.
use Rattle.std.proofs.Common.{◌≡◌, ◌<◌, ◌+◌, ◌-◌, ℕ, List, [], ◌∷◌, length, take, drop, Some, None, position, filter, refl, arith, ◌∙◌, ap, subst}
use Rattle.std.proofs.lemmas.List.{length-take-le, nil_from_length}
use Rattle.std.specs.List.{slice_split}
use Rattle.std.specs.Str.Lines.{strip_carriage_return}
use Rattle.rb_io.specs.Cut.{Line, line, is_line_feed, has_bytes, lines_cut, all_lines, lines_of}
use Rattle.rb_io.proofs.Splits.{slice_split-some, slice_split-none, slice_split-some_part, position-within}

abbrev kept : List Line → List Line
kept lines = filter (λ line. has_bytes line.content) lines

kept-cons : (content : List ℕ) (size : ℕ) (lines : List Line) → 0 < length content → kept (line content size ∷ lines) ≡ line content size ∷ kept lines
kept-cons [] size lines some = absurd (omega arith)
kept-cons (byte ∷ bytes) size lines some = refl

kept-empty : (content : List ℕ) (size : ℕ) (lines : List Line) → content ≡ [] → kept (line content size ∷ lines) ≡ kept lines
kept-empty [] size lines none = refl
kept-empty (byte ∷ bytes) size lines none = cc

lines_cut-cons : (bytes : List ℕ) (others : List (List ℕ)) → 0 < length others → lines_cut (bytes ∷ others) ≡ line (strip_carriage_return bytes) (length bytes) ∷ lines_cut others
lines_cut-cons bytes [] some = absurd (omega arith)
lines_cut-cons bytes (next ∷ others) some = refl

-- the text behind an LF at this place
abbrev behind : ℕ → List ℕ → List ℕ
behind end text = take (length text - (end + 1)) (drop (end + 1) text)

lines_of-some : (text : List ℕ) (end : ℕ) → position is_line_feed text ≡ Some end → lines_of text ≡ kept (line (strip_carriage_return (take end text)) (length (take end text)) ∷ lines_cut (slice_split is_line_feed (behind end text)))
unfolding lines_of
lines_of-some text end is =
    rw (slice_split-some is_line_feed text end is) (ap kept (lines_cut-cons (take end text) (slice_split is_line_feed (behind end text)) (slice_split-some_part is_line_feed (behind end text))))

-- an LF ends the first line, which is not empty
pub lines_of-filled : (text : List ℕ) (end : ℕ) (content : List ℕ) → position is_line_feed text ≡ Some end → content ≡ strip_carriage_return (take end text) → 0 < length content → lines_of text ≡ line content end ∷ lines_of (behind end text)
unfolding lines_of
lines_of-filled text end content is content_is some =
    let within : end < length text = position-within is_line_feed text end is in
    let size : length (take end text) ≡ end = length-take-le end text (omega arith) in
    let some' : 0 < length (strip_carriage_return (take end text)) = rw (← content_is) some in
    rw content_is (subst (λ (n : ℕ). lines_of text ≡ line (strip_carriage_return (take end text)) n ∷ lines_of (behind end text)) size (lines_of-some text end is ∙ kept-cons (strip_carriage_return (take end text)) (length (take end text)) (lines_cut (slice_split is_line_feed (behind end text))) some'))

-- an LF ends the first line, which is empty
pub lines_of-empty : (text : List ℕ) (end : ℕ) → position is_line_feed text ≡ Some end → strip_carriage_return (take end text) ≡ [] → lines_of text ≡ lines_of (behind end text)
unfolding lines_of
lines_of-empty text end is none =
    lines_of-some text end is ∙ kept-empty (strip_carriage_return (take end text)) (length (take end text)) (lines_cut (slice_split is_line_feed (behind end text))) none

-- no LF ends the one line
pub lines_of-last : (text : List ℕ) → position is_line_feed text ≡ None → 0 < length text → lines_of text ≡ line text (length text) ∷ lines_of []
unfolding lines_of
lines_of-last text is some =
    rw (slice_split-none is_line_feed text is) (kept-cons text (length text) [] some)

pub lines_of-none : (text : List ℕ) → length text ≡ 0 → lines_of text ≡ []
unfolding lines_of
lines_of-none text none = rw (nil_from_length text none)

-- ---- all lines
-- an LF ends the first line
pub all_lines-some : (text : List ℕ) (end : ℕ) (content : List ℕ) → position is_line_feed text ≡ Some end → content ≡ strip_carriage_return (take end text) → all_lines text ≡ line content end ∷ all_lines (behind end text)
all_lines-some text end content is content_is =
    let within : end < length text = position-within is_line_feed text end is in
    let size : length (take end text) ≡ end = length-take-le end text (omega arith) in
    let parts = slice_split-some is_line_feed text end is in
    let lines = lines_cut-cons (take end text) (slice_split is_line_feed (behind end text)) (slice_split-some_part is_line_feed (behind end text)) in
    rw content_is (subst (λ (n : ℕ). all_lines text ≡ line (strip_carriage_return (take end text)) n ∷ all_lines (behind end text)) size (ap lines_cut parts ∙ lines))

-- no LF ends the one line
pub all_lines-none : (text : List ℕ) → position is_line_feed text ≡ None → all_lines text ≡ line text (length text) ∷ []
all_lines-none text is = ap lines_cut (slice_split-none is_line_feed text is)
