-- Rows, one at a time.
use Rattle.std.proofs.Common.{◌≡◌, ◌≤◌, ◌<◌, ◌++◌, ◌+◌, ◌||◌, List, [], ℕ, suc, Bool, true, false, cond, ◌∷◌, length, map, take_while, Some, None, Result, Ok, Err, refl, sym, ap, ◌∙◌, arith, zero-add}
use Rattle.std.proofs.lemmas.Bool.Decides.{nat_tests}
use Rattle.std.specs.List.{concat, list_any, prefix_len}
use Rattle.rb_io.specs.Cut.{Line}
use Rattle.rb_tree.specs.State.{Row}
use Rattle.rb_rows.specs.declared.header.Target.{Target}
use Rattle.rb_rows.specs.Row.{row_of}
use Rattle.rb_run.specs.declared.job.Job.{Job}
use Rattle.rb_run.specs.declared.slot.Slot.{Slot}
use Rattle.rb_run.specs.Answers.{Told, slot_of, slots_from, is_refused}
use Rattle.rb_run.specs.Line.{line_of}
use Rattle.rbd.specs.declared.stop.Stop.{Stop}
use Rattle.rbd.specs.declared.stop.Stop.TheVariants.{Rows as AtRows}
use Rattle.rbd.specs.declared.stop.RowsFault.TheVariants.{LineTooLong}
use Rattle.rbd.specs.Course.{ending, lines_of, course_behind}
use Rattle.rbd.specs.Inputs.{rows, is_long, is_short, inputs_of, long_line}

-- ---- step by step
-- the row of a line, with its answer
abbrev pub slot_at : Job → Row → List Target → ℕ → Line → Slot
slot_at job start header number line = slot_of job number (row_of header line.content start)

-- the lines of the rows before the first that is too long
abbrev pub text_from : Job → Row → List Target → ℕ → List Line → List ℕ
text_from job start header number [] = []
text_from job start header number (line ∷ lines) =
    cond (is_long line) [] (line_of job.echo (slot_at job start header number line) ++ text_from job start header (number + 1) lines)

-- whether a row is refused, or the number of the first that is too long
abbrev pub answer_from : Job → Row → List Target → ℕ → Bool → List Line → Result Bool Stop
answer_from job start header number bad [] = Ok bad
answer_from job start header number bad (line ∷ lines) =
    cond (is_long line) (Err (AtRows (LineTooLong number))) (answer_from job start header (number + 1) (bad || is_refused (slot_at job start header number line)) lines)

-- the line of a row that is not too long comes first
pub text_short : (job : Job) (start : Row) (header : List Target) (number : ℕ) (lines : List Line) (row : Line) (others : List Line) → lines ≡ row ∷ others → row.size ≤ 65536
    → text_from job start header number lines ≡ line_of job.echo (slot_at job start header number row) ++ text_from job start header (number + 1) others
text_short job start header number lines row others is short = rw is (grind (arith, nat_tests))

-- and the rest is answered after it
pub answer_short : (job : Job) (start : Row) (header : List Target) (number : ℕ) (bad refused : Bool) (lines : List Line) (row : Line) (others : List Line) → lines ≡ row ∷ others → row.size ≤ 65536
    → refused ≡ is_refused (slot_at job start header number row) → answer_from job start header number bad lines ≡ answer_from job start header (number + 1) (bad || refused) others
answer_short job start header number bad refused lines row others is short told = rw (is, told) (grind (arith, nat_tests))

-- nothing comes behind a row that is too long
pub text_long : (job : Job) (start : Row) (header : List Target) (number : ℕ) (lines : List Line) (row : Line) (others : List Line) → lines ≡ row ∷ others → 65536 < row.size → text_from job start header number lines ≡ []
text_long job start header number lines row others is long = rw is (grind (arith, nat_tests))

pub answer_long : (job : Job) (start : Row) (header : List Target) (number : ℕ) (bad : Bool) (lines : List Line) (row : Line) (others : List Line) → lines ≡ row ∷ others → 65536 < row.size
    → answer_from job start header number bad lines ≡ Err (AtRows (LineTooLong number))
answer_long job start header number bad lines row others is long = rw is (grind (arith, nat_tests))

-- ---- all at once
-- the rows before the first that is too long
abbrev shorts : List Line → List Line
shorts lines = take_while is_short lines

shorts_long : (line : Line) (lines : List Line) → is_long line ≡ true → shorts (line ∷ lines) ≡ []
shorts_long line lines long = rw long refl

shorts_short : (line : Line) (lines : List Line) → is_long line ≡ false → shorts (line ∷ lines) ≡ line ∷ shorts lines
shorts_short line lines short = let next : 1 + prefix_len is_short lines ≡ suc (prefix_len is_short lines) = omega arith in rw short (rw next refl)

-- with their answers, from this number on
abbrev pub answered : Job → Row → List Target → ℕ → List Line → List Slot
answered job start header number lines = slots_from job number (inputs_of start (rows header lines))

abbrev told : Row → List Target → List Line → List Told
told start header lines = map (λ line. row_of header line.content start) lines

answered_long : (job : Job) (start : Row) (header : List Target) (number : ℕ) (line : Line) (lines : List Line) → is_long line ≡ true → answered job start header number (line ∷ lines) ≡ []
unfolding inputs_of
answered_long job start header number line lines long = ap (λ (ls : List Line). slots_from job number (told start header ls)) (shorts_long line lines long)

answered_short : (job : Job) (start : Row) (header : List Target) (number : ℕ) (line : Line) (lines : List Line) → is_long line ≡ false
    → answered job start header number (line ∷ lines) ≡ slot_at job start header number line ∷ answered job start header (number + 1) lines
unfolding inputs_of
answered_short job start header number line lines short = ap (λ (ls : List Line). slots_from job number (told start header ls)) (shorts_short line lines short)

answered_none : (job : Job) (start : Row) (header : List Target) (number : ℕ) → answered job start header number [] ≡ []
unfolding inputs_of
answered_none job start header number = refl

pub text_all : (job : Job) (start : Row) (header : List Target) (number : ℕ) (lines : List Line) → concat (lines_of job (answered job start header number lines)) ≡ text_from job start header number lines
text_all job start header number [] = rw (answered_none job start header number) refl
text_all job start header number (line ∷ lines) = by_size (is_long line) (text_all job start header (number + 1) lines) refl
  where
    by_size : (long : Bool) → concat (lines_of job (answered job start header (number + 1) lines)) ≡ text_from job start header (number + 1) lines → is_long line ≡ long → concat (lines_of job (answered job start header number (line ∷ lines))) ≡ text_from job start header number (line ∷ lines)
    by_size true later is = rw (answered_long job start header number line lines is, is) refl
    by_size false later is =
        rw (answered_short job start header number line lines is, is)
        (ap (λ text. line_of job.echo (slot_at job start header number line) ++ text) later)

-- what the step by step answer is
abbrev end_of : Job → Row → List Target → ℕ → Bool → List Line → Result Bool Stop
end_of job start header number bad lines =
    cond (list_any is_long lines) (Err (AtRows (LineTooLong (length (shorts lines) + number)))) (Ok (bad || list_any is_refused (answered job start header number lines)))

or_false : (b : Bool) → (b || false) ≡ b
or_false true = refl
or_false false = refl

or_or : (a b c : Bool) → ((a || b) || c) ≡ (a || (b || c))
or_or true b c = refl
or_or false b c = refl

answer_ends : (job : Job) (start : Row) (header : List Target) (number : ℕ) (bad : Bool) (lines : List Line) → answer_from job start header number bad lines ≡ end_of job start header number bad lines
answer_ends job start header number bad [] = rw (answered_none job start header number) (ap Ok (sym (or_false bad)))
answer_ends job start header number bad (line ∷ lines) = by_size (is_long line) (answer_ends job start header (number + 1) (bad || is_refused (slot_at job start header number line)) lines) refl
  where
    by_size : (long : Bool) → answer_from job start header (number + 1) (bad || is_refused (slot_at job start header number line)) lines ≡ end_of job start header (number + 1) (bad || is_refused (slot_at job start header number line)) lines
        → is_long line ≡ long → answer_from job start header number bad (line ∷ lines) ≡ end_of job start header number bad (line ∷ lines)
    by_size true later is = rw (shorts_long line lines is, is) (ap (λ (n : ℕ). Err (AtRows (LineTooLong n))) (sym (zero-add number)))
    by_size false later is =
        let size : length (shorts lines) + (number + 1) ≡ suc (length (shorts lines)) + number = omega arith in
        rw (shorts_short line lines is, answered_short job start header number line lines is, is)
        (later
        ∙ rw (size, or_or bad (is_refused (slot_at job start header number line)) (list_any is_refused (answered job start header (number + 1) lines))) refl)

pub answer_all : (job : Job) (start : Row) (header : List Target) (lines : List Line) → answer_from job start header 1 false lines ≡ ending (long_line (rows header lines)) (answered job start header 1 lines)
unfolding long_line
answer_all job start header lines = answer_ends job start header 1 false lines ∙ by_any (list_any is_long lines)
  where
    by_any : (any : Bool) → cond any (Err (AtRows (LineTooLong (length (shorts lines) + 1)))) (Ok (false || list_any is_refused (answered job start header 1 lines)))
        ≡ ending (cond any (Some (LineTooLong (length (shorts lines) + 1))) None) (answered job start header 1 lines)
    by_any true = refl
    by_any false = refl

-- the course of rows behind the header, from what was answered and put step by step
pub record Steps (job : Job) (start : Row) (header : List Target) (lines : List Line) : Type 0 where
  pub answer : (course_behind job start (rows header lines)).answer ≡ answer_from job start header 1 false lines
  pub put : (course_behind job start (rows header lines)).put ≡ text_from job start header 1 lines

pub steps_are : (job : Job) (start : Row) (header : List Target) (lines : List Line) → Steps job start header lines
steps_are job start header lines = record { answer = sym (answer_all job start header lines); put = text_all job start header 1 lines }
