-- Parts of a run along its course.
use Rattle.std.proofs.Common.{◌≡◌, ◌<◌, ℕ, List, [], ◌∷◌, ◌++◌, Bool, true, false, cond, IsTrue, Option, Some, None, Result, Ok, Err, refl, sym, ap, ◌∙◌, append_assoc, append-nil, subst, ◌⊎◌, inl, inr}
use Rattle.std.specs.List.{list_any}
use Rattle.rb_io.specs.Calls.{Puts, PutsPart}
use Rattle.rb_io.proofs.Parts.{part_so_far, part_none, part_whole, part_first, part_later}
use Rattle.rb_io.specs.Cut.{Line}
use Rattle.rb_tree.specs.Robot.{Tree}
use Rattle.rb_tree.specs.State.{Row}
use Rattle.rb_rows.specs.declared.faults.HeaderFault.{HeaderFault}
use Rattle.rb_rows.specs.declared.faults.HeaderKind.TheVariants.{BadHeader}
use Rattle.rb_rows.specs.declared.header.Target.{Target}
use Rattle.rb_rows.specs.Faults.{header_fault}
use Rattle.rb_rows.specs.Header.{header_of}
use Rattle.rb_result.specs.Steps.{◌>>=◌, told_as}
use Rattle.rb_run.specs.declared.job.Job.{Job}
use Rattle.rb_run.specs.declared.slot.Slot.{Slot}
use Rattle.rbd.specs.declared.stop.RowsFault.{RowsFault}
use Rattle.rbd.specs.declared.stop.RowsFault.TheVariants.{TooLong, Header, LineTooLong}
use Rattle.rbd.specs.declared.stop.Stop.{Stop}
use Rattle.rbd.specs.declared.stop.Stop.TheVariants.{Rows as AtRows, Output, Memory}
use Rattle.rbd.specs.declared.stop.RowsStop.{RowsStop}
use Rattle.rbd.specs.declared.stop.RowsStop.TheVariants as part
use Rattle.rbd.specs.Stops.{stop_of_rows}
use Rattle.rbd.specs.Course.{Course, stopped, tells, ending, head_of, course_behind, course_of_rows}
use Rattle.rbd.specs.Inputs.{Rows, rows, rows_of_lines, long_line, is_long}
use Rattle.rbd.specs.Run.{Stream, is_plain, Follows}
use Rattle.rbd.proofs.EachRow.{text_from, answer_from, text_long, answer_long, steps_are}

-- what was put so far is all, where nothing is left
puts_all : {old new whole rest : List ℕ} → Puts old new whole rest → rest ≡ [] → new ≡ old ++ whole
puts_all {old} {new} {whole} {rest} h none =
    h.put ∙ ap (λ t. old ++ t) (sym (h.left ∙ ap (λ t. h.done ++ t) none ∙ append-nil h.done))

-- a fault of the output or want of memory ends a run on its way
pub ended_early : (course : Course) (out : Stream) (stop : RowsStop) → (stop ≡ part.Output) ⊎ (stop ≡ part.Memory) → (IsTrue out.tells → PutsPart out.old out.new course.put) → Follows course out (Err (stop_of_rows stop))
ended_early course out stop (inl is) put = rw is (record { answers = λ plain. absurd cc; whole = λ plain told. absurd cc; part = put })
ended_early course out stop (inr is) put = rw is (record { answers = λ plain. absurd cc; whole = λ plain told. absurd cc; part = put })

-- ---- of the rows behind the header
module _ (job : Job) (start : Row) (header : List Target) (lines : List Line) (out : Stream) where
  -- a run that came to the end of the rows, or to one that is too long
  ended : (answer : Result Bool Stop) (rest : List ℕ) → answer_from job start header 1 false lines ≡ answer → (IsTrue out.tells → Puts out.old out.new (text_from job start header 1 lines) rest) → rest ≡ []
      → Follows (course_behind job start (rows header lines)) out answer
  ended answer rest is puts none =
      let steps = steps_are job start header lines in
      record {
        answers = λ plain. sym (steps.answer ∙ is);
        whole = λ plain told. puts_all (puts told) none ∙ ap (λ t. out.old ++ t) (sym steps.put);
        part = λ told. subst (PutsPart out.old out.new) (sym steps.put) (part_so_far (puts told));
      }

  pub follows_long : (number : ℕ) (bad : Bool) (left : List Line) (row : Line) (others : List Line) → left ≡ row ∷ others → 65536 < row.size
      → answer_from job start header number bad left ≡ answer_from job start header 1 false lines → (IsTrue out.tells → Puts out.old out.new (text_from job start header 1 lines) (text_from job start header number left))
      → Follows (course_behind job start (rows header lines)) out (Err (AtRows (LineTooLong number)))
  follows_long number bad left row others is long answers puts =
      ended (Err (AtRows (LineTooLong number))) (text_from job start header number left) (sym answers ∙ answer_long job start header number bad left row others is long) puts
      (text_long job start header number left row others is long)

  pub follows_end : (number : ℕ) (bad : Bool) (left : List Line) → left ≡ [] → answer_from job start header number bad left ≡ answer_from job start header 1 false lines
      → (IsTrue out.tells → Puts out.old out.new (text_from job start header 1 lines) (text_from job start header number left)) → Follows (course_behind job start (rows header lines)) out (Ok bad)
  follows_end number bad left none answers puts =
      ended (Ok bad) (text_from job start header number left) (sym answers ∙ ap (answer_from job start header number bad) none) puts (ap (text_from job start header number) none)

  -- a fault of the output or want of memory ends the run on the way
  pub follows_fault : (stop : RowsStop) → (stop ≡ part.Output) ⊎ (stop ≡ part.Memory) → (IsTrue out.tells → PutsPart out.old out.new (text_from job start header 1 lines)) → Follows (course_behind job start (rows header lines)) out (Err (stop_of_rows stop))
  follows_fault stop only put = let steps = steps_are job start header lines in ended_early (course_behind job start (rows header lines)) out stop only (λ told. subst (PutsPart out.old out.new) (sym steps.put) (put told))

-- ---- of all rows
-- nothing was put, and a fault or want of memory ended the run
pub follows_nothing : (course : Course) (out : Stream) (stop : Stop) → is_plain (Err stop) ≡ false → (IsTrue out.tells → out.new ≡ out.old) → Follows course out (Err stop)
follows_nothing course out stop fault same = record {
  answers = λ plain. absurd (cc (fault, plain));
  whole = λ plain told. absurd (cc (fault, plain));
  part = λ told. subst (λ new. PutsPart out.old new course.put) (sym (same told)) (part_none out.old course.put);
}

-- it ends with nothing put
pub follows_stop : (stop : Stop) (out : Stream) → (IsTrue out.tells → out.new ≡ out.old) → Follows (stopped stop) out (Err stop)
follows_stop stop out same = record {
  answers = λ plain. refl;
  whole = λ plain told. same told ∙ sym (append-nil out.old);
  part = λ told. part_whole (same told ∙ sym (append-nil out.old));
}

-- the rows are refused
pub follows_refused : (job : Job) (start : Row) (read : Result Rows RowsFault) (fault : RowsFault) (out : Stream) → read ≡ Err fault → (IsTrue out.tells → out.new ≡ out.old)
    → Follows (course_of_rows job start read) out (Err (AtRows fault))
follows_refused job start read fault out is same = rw is (follows_stop (AtRows fault) out same)

-- the header is refused, or no memory was found for it
pub header_stops : (job : Job) (start : Row) (read : Result Rows RowsFault) (out : Stream) (stop : RowsStop) → (stop ≡ part.Memory) ⊎ ((fault : RowsFault) × (stop ≡ part.Fault fault) × (read ≡ Err fault)) → (IsTrue out.tells → out.new ≡ out.old)
    → Follows (course_of_rows job start read) out (Err (stop_of_rows stop))
header_stops job start read out stop (inl memory) same = rw memory (follows_nothing (course_of_rows job start read) out Memory refl same)
header_stops job start read out stop (inr (fault, is, refused)) same = rw is (follows_refused job start read fault out refused same)

-- the first line alone failed
pub follows_first : (job : Job) (start : Row) (found : Rows) (out : Stream) → (IsTrue out.tells → PutsPart out.old out.new (head_of job))
    → Follows (course_of_rows job start (Ok found)) out (Err Output)
follows_first job start found out part = record {
  answers = λ plain. absurd cc;
  whole = λ plain told. absurd cc;
  part = λ told. part_first _ _ (part told);
}

-- the first line, and then the rows behind the header
pub follows_behind : (job : Job) (start : Row) (found : Rows) (tells : Bool) (old mid new : List ℕ) (before between after : ℕ) (answer : Result Bool Stop)
    → (IsTrue tells → mid ≡ old ++ head_of job) → Follows (course_behind job start found) (record { tells = tells; old = mid; new = new; before = between; after = after }) answer
    → Follows (course_of_rows job start (Ok found)) (record { tells = tells; old = old; new = new; before = before; after = after }) answer
follows_behind job start found tells old mid new before between after answer first behind = record {
  answers = behind.answers;
  whole = λ plain told. behind.whole plain told ∙ ap (λ t. t ++ (course_behind job start found).put) (first told) ∙ append_assoc old (head_of job) (course_behind job start found).put;
  part = λ told. part_later (head_of job) (course_behind job start found).put (first told) (behind.part told);
}

-- ---- rows that are not too long in all
ends_otherwise : (found : Option RowsFault) (answers : List Slot) → ((fault : RowsFault) → found ≡ Some fault → fault ≡ TooLong → ⊥) → ending found answers ≡ Err (AtRows TooLong) → ⊥
ends_otherwise None answers other is = absurd cc
ends_otherwise (Some fault) answers other is = let same : fault ≡ TooLong = cc in other fault refl same

long_otherwise : (any : Bool) (number : ℕ) (fault : RowsFault) → cond any (Some (LineTooLong number)) None ≡ Some fault → fault ≡ TooLong → ⊥
long_otherwise true number fault is same = let e : LineTooLong number ≡ TooLong = cc in absurd cc
long_otherwise false number fault is same = absurd cc

-- the run behind the header does not end so
pub behind_otherwise : (job : Job) (start : Row) (found : Rows) (out : Stream) → Follows (course_behind job start found) out (Err (AtRows TooLong)) → ⊥
unfolding long_line
behind_otherwise job start found out follows =
    ends_otherwise (long_line found) _ (λ fault is same. long_otherwise (list_any is_long found.lines) _ fault is same) (sym (follows.answers refl))

-- and the header is not refused so
header_otherwise : (found : Result (List Target) HeaderFault) (lines : List Line) → (told_as Header found >>= λ header. Ok (rows header lines)) ≡ Err TooLong → ⊥
header_otherwise (Ok header) lines is = absurd cc
header_otherwise (Err fault) lines is = let e : Header fault ≡ TooLong = cc in absurd cc

first_otherwise : (long : Bool) (found : Result (List Target) HeaderFault) (lines : List Line) → cond long (Err (LineTooLong 0)) (told_as Header found >>= λ header. Ok (rows header lines)) ≡ Err TooLong → ⊥
first_otherwise true found lines is = let e : LineTooLong 0 ≡ TooLong = cc in absurd cc
first_otherwise false found lines is = header_otherwise found lines is

pub lines_otherwise : (tree : Tree) (lines : List Line) → rows_of_lines tree lines ≡ Err TooLong → ⊥
lines_otherwise tree [] is = let e : Header (header_fault BadHeader 0) ≡ TooLong = cc in absurd cc
lines_otherwise tree (first ∷ lines) is = first_otherwise (is_long first) (header_of tree first.content) lines is

pub stop_otherwise : (tree : Tree) (lines : List Line) (stop : RowsStop) → (stop ≡ part.Memory) ⊎ ((fault : RowsFault) × (stop ≡ part.Fault fault) × (rows_of_lines tree lines ≡ Err fault)) → stop ≡ part.Fault TooLong → ⊥
stop_otherwise tree lines stop (inl memory) is = let e : part.Memory ≡ part.Fault TooLong = sym memory ∙ is in absurd cc
stop_otherwise tree lines stop (inr (fault, told, refused)) is =
    let e : part.Fault fault ≡ part.Fault TooLong = sym told ∙ is in
    let same : fault ≡ TooLong = cc in
    lines_otherwise tree lines (refused ∙ ap Err same)

-- ---- a text
pub follows_text : (text : List ℕ) (out : Stream) → (IsTrue out.tells → out.new ≡ out.old ++ text) → Follows (tells text) out (Ok false)
follows_text text out put = record { answers = λ plain. refl; whole = λ plain told. put told; part = λ told. part_whole (put told) }
