-- A file has one answer: its constraints, or its first fault.
use Rattle.std.proofs.Common.{◌≡◌, ◌≢◌, ◌≤◌, ℕ, not, Bool, true, false, List, [], ◌∷◌, ◌++◌, length, Result, Ok, Err, inl, refl, sym, ap, ◌∙◌, subst, arith, true≢false, append_assoc}
use Rattle.std.specs.Prelude.{bytes_eq, AllPairs}
use Rattle.std.specs.List.{AllZip, AllByRecursion}
use Rattle.std.proofs.lemmas.List.{append-nil, length-append}
use Rattle.rb_result.specs.Steps.{◌>>=◌, placed}
use Rattle.rb_result.proofs.Results.{then-ok, placed-ok, unless-ok}
use Rattle.rb_tags.specs.InOrder.{◌when◌, at_place}
use Rattle.rb_tags.proofs.Obeying.{Obeys, obeys-err, obeys-value, obeys-placed, obeys-unless, obeys-along, obeys-first}
use Rattle.rb_srdf.proofs.GivenLaws.{is-text, same-text, other-text}
use Rattle.rb_srdf.proofs.Lists.{zip-push, pairs-push, pairs-new}
use Rattle.rb_tree.specs.Robot.{Tree}
use Rattle.rb_constraint.specs.declared.faults.ConFault.{ConFault}
use Rattle.rb_constraint.specs.declared.faults.ConKind.TheVariants as kind
use Rattle.rb_constraint.specs.declared.constraints.Constraint.{Constraint}
use Rattle.rb_constraint.specs.declared.constraints.TheConstants.{MAX_ROWS}
use Rattle.rb_constraint.specs.Faults.{fault_at}
use Rattle.rb_constraint.specs.Constraints.{own_rows, rows_of, AreAllOrdered, IsConstraintKept, AreConstraints}
use Rattle.rb_constraint.specs.File.{NumberedLine, lines_of, header, axes_in, Says, HasHeader, IsFile}
use Rattle.rb_constraint.specs.Refusals.{line_refusals, in_order, file_refusals, HasFault}
use Rattle.rb_constraint.specs.Read.{is_named, constraint_in, added, constraints_in, file_with, file_of}
use Rattle.rb_constraint.specs.Laws.{Answers, HasAnswer, HasOneAnswer}
use Rattle.rb_constraint.proofs.AxesLaws.{axes-some}
use Rattle.rb_constraint.proofs.StepLaws.{line-obeys, IsNext, next-says, next-read}
use Rattle.rb_constraint.proofs.RowLaws.{rows_of-push, rows_of-more, rows_of-none}

-- ---- refusals
module _ (tree : Tree) where
  added-obeys : (before : List NumberedLine) (made : List Constraint) (line : NumberedLine) → AllZip (Says tree) before made
      → Obeys (at_place fault_at line.number (line_refusals tree before line)) (added tree made line)
  unfolding added
  added-obeys before made line each =
      obeys-value (placed fault_at line.number (constraint_in tree made line.content)) (λ c. made ++ c ∷ []) (obeys-placed fault_at line.number (constraint_in tree made line.content) (line-obeys tree before made line each))

  pub added-says : (made more : List Constraint) (line : NumberedLine) → added tree made line ≡ Ok more → (c : Constraint) × IsNext tree made line c × (made ++ c ∷ [] ≡ more)
  unfolding added
  added-says made more line h =
      let p = then-ok (placed fault_at line.number (constraint_in tree made line.content)) (λ c. Ok (made ++ c ∷ [])) more h in
      let same : made ++ p.0 ∷ [] ≡ more = cc in
      (p.0, next-says tree made line p.0 (placed-ok fault_at line.number (constraint_in tree made line.content) p.0 p.1), same)

  pub added-read : (made : List Constraint) (line : NumberedLine) (c : Constraint) → IsNext tree made line c → added tree made line ≡ Ok (made ++ c ∷ [])
  unfolding added
  added-read made line c is = ap (λ r. placed fault_at line.number r >>= λ c. Ok (made ++ c ∷ [])) (next-read tree made line c is)

  say-more : (before : List NumberedLine) (made more : List Constraint) (line : NumberedLine) → AllZip (Says tree) before made → added tree made line ≡ Ok more → AllZip (Says tree) (before ++ line ∷ []) more
  say-more before made more line each h =
      let p = added-says made more line h in
      subst (AllZip (Says tree) (before ++ line ∷ [])) p.2 (zip-push (Says tree) before made line p.0 each p.1.say)

  lines-obey : (lines : List NumberedLine) → Obeys (in_order tree [] lines) (constraints_in tree [] lines)
  unfolding constraints_in
  lines-obey lines =
      obeys-along (constraints_in tree) (added tree) (λ before line. at_place fault_at line.number (line_refusals tree before line)) (AllZip (Says tree))
      (λ made. refl) (λ made line lines. refl)
      (λ before made line each. added-obeys before made line each)
      (λ before made more line each h. say-more before made more line each h)
      [] [] lines tt

  file-obeys : (lines : List NumberedLine) → Obeys (file_refusals tree lines) (file_with tree lines)
  unfolding file_with
  file-obeys [] = obeys-err (fault_at kind.BadHeader 0 when Unit {0} ∷ []) (fault_at kind.BadHeader 0) (inl (tt, refl))
  file-obeys (first ∷ behind) =
      obeys-unless (fault_at kind.BadHeader first.number) (first.content ≢ header) (in_order tree [] behind) (not (bytes_eq first.content header)) (constraints_in tree [] behind)
      other same (λ h. lines-obey behind)
    where
      other : not (bytes_eq first.content header) ≡ true → first.content ≢ header
      other h is = true≢false (sym h ∙ ap not (same-text first.content header is))

      same : not (bytes_eq first.content header) ≡ false → ¬ (first.content ≢ header)
      same h differ = true≢false (sym (ap not (other-text first.content header differ)) ∙ h)

  -- ---- the constraints that are read
  record AreMade (lines : List NumberedLine) (list : List Constraint) : Type 0 where
    say : AllZip (Says tree) lines list
    differ : AllPairs (λ a b. a.name ≢ b.name) list
    few : length (rows_of list) ≤ MAX_ROWS

  named-apart : (a b : Constraint) → bytes_eq a.name b.name ≡ false → a.name ≢ b.name
  named-apart a b h same = true≢false (sym (same-text a.name b.name same) ∙ h)

  apart-named : (a b : Constraint) → a.name ≢ b.name → bytes_eq a.name b.name ≡ false
  apart-named a b differ = other-text a.name b.name differ

  more-made : (lines : List NumberedLine) (list : List Constraint) (line : NumberedLine) (c : Constraint) → AreMade lines list → IsNext tree list line c → AreMade (lines ++ line ∷ []) (list ++ c ∷ [])
  more-made lines list line c are is = record {
    say = zip-push (Says tree) lines list line c are.say is.say;
    differ = pairs-push (λ a b. a.name ≢ b.name) (λ x y. bytes_eq y.name x.name) named-apart list c are.differ is.new;
    few = omega (arith, is.few, ap length (rows_of-push list c), length-append (rows_of list) (own_rows c));
  }

  all-made : (before : List NumberedLine) (made : List Constraint) (lines : List NumberedLine) (list : List Constraint) → AreMade before made → constraints_in tree made lines ≡ Ok list → AreMade (before ++ lines) list
  unfolding constraints_in
  all-made before made [] list are h =
      let same : made ≡ list = cc in
      subst (λ ls. AreMade ls list) (sym (append-nil before)) (subst (AreMade before) same are)
  all-made before made (line ∷ lines) list are h =
      let p = then-ok (added tree made line) (λ more. constraints_in tree more lines) list h in
      let next = added-says made p.0 line p.1 in
      let more = more-made before made line next.0 are next.1 in
      subst (λ ls. AreMade ls list) (append_assoc before (line ∷ []) lines)
      (all-made (before ++ line ∷ []) (made ++ next.0 ∷ []) lines list more (ap (λ m. constraints_in tree m lines) next.2 ∙ p.2))

  made-read : (made : List Constraint) (lines : List NumberedLine) (list : List Constraint) → AllZip (Says tree) lines list → AllPairs (λ a b. a.name ≢ b.name) (made ++ list)
      → length (rows_of (made ++ list)) ≤ MAX_ROWS → constraints_in tree made lines ≡ Ok (made ++ list)
  unfolding constraints_in
  made-read made [] [] each differ few = ap Ok (sym (append-nil made))
  made-read made [] (c ∷ list) each differ few = absurd each
  made-read made (line ∷ lines) [] each differ few = absurd each
  made-read made (line ∷ lines) (c ∷ list) each differ few =
      let new : is_named made c.name ≡ false = pairs-new (λ a b. a.name ≢ b.name) (λ x y. bytes_eq y.name x.name) apart-named made list c differ in
      let next : IsNext tree made line c = record { say = each.0; new = new; few = omega (arith, rows_of-more made c list) } in
      let whole : (made ++ c ∷ []) ++ list ≡ made ++ c ∷ list = append_assoc made (c ∷ []) list in
      ap (λ r. r >>= λ more. constraints_in tree more lines) (added-read made line c next)
      ∙ made-read (made ++ c ∷ []) lines list each.1 (subst (AllPairs (λ a b. a.name ≢ b.name)) (sym whole) differ) (subst (λ l. length (rows_of l) ≤ MAX_ROWS) (sym whole) few)
      ∙ ap Ok whole

-- ---- files
pub header-read : (tree : Tree) (text : List ℕ) (h : HasHeader text) → file_of tree text ≡ constraints_in tree [] h.behind
unfolding file_of file_with
header-read tree text h = rw (h.lines_are, ap not (same-text h.first.content header h.is)) refl

none-made : (tree : Tree) → AreMade tree [] []
none-made tree = record { say = tt; differ = λ i j d before within. absurd (omega arith); few = omega (arith, ap length rows_of-none) }

pub lines-say : (tree : Tree) (text : List ℕ) (list : List Constraint) (h : HasHeader text) → constraints_in tree [] h.behind ≡ Ok list → IsFile tree text list
lines-say tree text list h read =
    let are = all-made tree [] [] h.behind list (none-made tree) read in
    record { header = h; say = are.say; differ = are.differ; few = are.few }

pub file-says : (tree : Tree) (text : List ℕ) (list : List Constraint) → file_of tree text ≡ Ok list → IsFile tree text list
unfolding file_of file_with
file-says tree text list h = by (lines_of text) refl h
  where
    by : (lines : List NumberedLine) → lines_of text ≡ lines → file_with tree lines ≡ Ok list → IsFile tree text list
    by [] e h = absurd cc
    by (first ∷ behind) e h =
        let p = unless-ok (not (bytes_eq first.content header)) (fault_at kind.BadHeader first.number) (constraints_in tree [] behind) list h in
        lines-say tree text list (record { first = first; behind = behind; lines_are = e; is = is-header (bytes_eq first.content header) refl p.0 }) p.1
      where
        is-header : (b : Bool) → bytes_eq first.content header ≡ b → not b ≡ false → first.content ≡ header
        is-header true e h = is-text first.content header e
        is-header false e h = absurd (true≢false h)

pub file-read : (tree : Tree) (text : List ℕ) (list : List Constraint) → IsFile tree text list → file_of tree text ≡ Ok list
file-read tree text list file = header-read tree text file.header ∙ made-read tree [] file.header.behind list file.say file.differ file.few

pub file-refused : (tree : Tree) (text : List ℕ) (fault : ConFault) → file_of tree text ≡ Err fault → HasFault tree text fault
unfolding file_of
file-refused tree text fault h = (file-obeys tree (lines_of text)).refuses fault h

fault-refused : (tree : Tree) (text : List ℕ) (fault : ConFault) → HasFault tree text fault → file_of tree text ≡ Err fault
unfolding file_of
fault-refused tree text fault first = obeys-first (file_refusals tree (lines_of text)) (file_with tree (lines_of text)) fault (file-obeys tree (lines_of text)) first

answer-read : (tree : Tree) (text : List ℕ) (answer : Result (List Constraint) ConFault) → Answers tree text answer → file_of tree text ≡ answer
answer-read tree text (Ok list) is = file-read tree text list is
answer-read tree text (Err fault) is = fault-refused tree text fault is

pub has_answer : HasAnswer
has_answer tree text = (file_of tree text, by (file_of tree text) refl)
  where
    by : (answer : Result (List Constraint) ConFault) → file_of tree text ≡ answer → Answers tree text answer
    by (Ok list) h = file-says tree text list h
    by (Err fault) h = file-refused tree text fault h

pub has_one_answer : HasOneAnswer
has_one_answer tree text a b p q = sym (answer-read tree text a p) ∙ answer-read tree text b q

-- ---- what the constraints of a file keep
all-kept : (tree : Tree) (lines : List NumberedLine) (list : List Constraint) → AllZip (Says tree) lines list → AreAllOrdered list → AllByRecursion IsConstraintKept list
all-kept tree [] [] each ordered = tt
all-kept tree [] (c ∷ list) each ordered = absurd each
all-kept tree (line ∷ lines) [] each ordered = absurd each
all-kept tree (line ∷ lines) (c ∷ list) each ordered = (
  record {
    named = λ none. each.0.is.named (sym each.0.name ∙ none);
    some = axes-some (axes_in each.0.fields) c.axes each.0.axes;
    ordered = ordered.0;
    within = each.0.numbers.within;
  },
  all-kept tree lines list each.1 ordered.1,
)

pub file_kept : (tree : Tree) (text : List ℕ) (list : List Constraint) → IsFile tree text list → AreAllOrdered list → AreConstraints list
file_kept tree text list file ordered = record { differ = file.differ; few = file.few; kept = all-kept tree file.header.behind list file.say ordered }

-- ---- the header
pub header-none : (tree : Tree) (text : List ℕ) (fault : ConFault) → lines_of text ≡ [] → fault ≡ fault_at kind.BadHeader 0 → file_of tree text ≡ Err fault
unfolding file_of file_with
header-none tree text fault none is = rw (none, is) refl

pub header-other : (tree : Tree) (text : List ℕ) (first : NumberedLine) (behind : List NumberedLine) (fault : ConFault) → lines_of text ≡ first ∷ behind → not (bytes_eq first.content header) ≡ true
    → fault ≡ fault_at kind.BadHeader first.number → file_of tree text ≡ Err fault
unfolding file_of file_with
header-other tree text first behind fault lines other is = rw (lines, other, is) refl

pub header-same : (tree : Tree) (text : List ℕ) (first : NumberedLine) (behind : List NumberedLine) → lines_of text ≡ first ∷ behind → not (bytes_eq first.content header) ≡ false → file_of tree text ≡ constraints_in tree [] behind
unfolding file_of file_with
header-same tree text first behind lines same = rw (lines, same) refl
