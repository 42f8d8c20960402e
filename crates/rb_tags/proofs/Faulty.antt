-- A file that has a fault is refused with it.
use Rattle.std.proofs.Common.{◌≡◌, ◌≢◌, ℕ, ◌+◌, ◌-◌, ◌<◌, ◌≤◌, Bool, true, false, cond, List, [], ◌∷◌, ◌++◌, length, codes, Result, Ok, Err, refl, sym, ap, subst, ◌∙◌, arith, ◌⊎◌, inl, inr}
use Rattle.std.specs.List.{take_while, AllPass}
use Rattle.std.specs.Str.{IsUtf8, IsValidUpTo, bytes_eq}
use Rattle.std.proofs.lemmas.Str.{utf8_valid_len-IsValidUpTo}
use Rattle.std.proofs.lemmas.Slice.Eq.{bytes_eq-Decides}
use Rattle.std.proofs.lemmas.List.{length-append, append-nil, nil_from_length, take_all}
use Rattle.std.proofs.lemmas.List.Elements.{All-head, All-tail}
use Rattle.rb_tags.specs.declared.tag.TheConstants.{MAX_DEPTH, MAX_TAGS}
use Rattle.rb_tags.specs.declared.tag.Tag.{Tag}
use Rattle.rb_tags.specs.declared.read.TagFault.{TagFault}
use Rattle.rb_tags.specs.declared.read.TagKind.{TagKind}
use Rattle.rb_tags.specs.declared.read.TagKind.TheVariants as kind
use Rattle.rb_tags.specs.Faults.{fault_at}
use Rattle.rb_tags.specs.Bytes.{is_space, is_text_byte, past}
use Rattle.rb_tags.specs.Seen.{OpenElement, Seen, are_distinct, with_tag, entered, started, ended_in, ended, with_data, marked, marked_at, read_mark, read_text, finished_in, finished}
use Rattle.rb_tags.specs.Marks.{Mark, mark_at}
use Rattle.rb_tags.specs.Tags.{tags_from, tags_of}
use Rattle.rb_tags.specs.Grammar.{MayStand, WrittenStart, start_of, WrittenMark, Data, Start, End, IsMark, mark_text, mark_of_written, Closes}
use Rattle.rb_tags.specs.Refusals.{Reached, AtMark, HasBadMark, HasStrayText, HasStrayData, AtStart, HasSecond, HasTwice, HasDepth, HasTooMany, HasMismatch, AreDistinct, LeavesOpen, HasNoElement, HasFaultOf, HasFault}
use Rattle.rb_tags.proofs.Runs.{take_while_yes, run_again, past_again}
use Rattle.rb_tags.proofs.Between.{text_stays}
use Rattle.rb_tags.proofs.Distinct.{written_distinct, distinct_again}
use Rattle.rb_tags.proofs.SoFar.{after_text, step}
use Rattle.rb_tags.proofs.Valid.{tags_of_other}
use Rattle.rb_tags.proofs.MarkLaws.{mark_complete}
use Rattle.rb_tags.proofs.BadAgain.{bad_again}
use Rattle.rb_tags.proofs.Follows.{second, inside_is, second_is, StartAnswer, ASecond, ATwice, ADeep, AMany, ATaken, answer_of}
use Rattle.rb_tags.proofs.Judged.{place_of}
use Rattle.rb_tags.proofs.Arrives.{no_text_byte, spaces_are_text, text_again, seen_at}
use Rattle.rb_result.specs.Steps.{◌>>=◌}

not_utf8 : (bytes : List ℕ) (at : ℕ) → IsValidUpTo bytes at → tags_of bytes ≡ Err (fault_at kind.NotUtf8 at)
not_utf8 bytes at h =
    tags_of_other bytes (λ valid. h.longest (length bytes) h.short (subst (λ (t : List ℕ). IsUtf8 t) (sym (take_all (length bytes) bytes (omega arith))) valid))
    ∙ ap (λ (n : ℕ). Err (fault_at kind.NotUtf8 n)) (utf8_valid_len-IsValidUpTo bytes at h)

-- what is seen at a mark
record MarkIs (bytes : List ℕ) (at count : ℕ) (elements : List OpenElement) (rest : List ℕ) : Type 0 where
  seen : Seen
  left : ℕ
  count_is : length seen.tags ≡ count
  elements_are : seen.open_elements ≡ elements
  goes : tags_of bytes ≡ (read_mark seen at rest >>= λ mark. tags_from (length bytes) left mark.0 mark.1)

mark_is : (bytes : List ℕ) (at count : ℕ) (elements : List OpenElement) (rest : List ℕ) → AtMark bytes at count elements rest → MarkIs bytes at count elements rest
mark_is bytes at count elements rest h =
    let whole = h.before ++ 60 ∷ rest in
    let a = seen_at bytes h.place count elements whole h.reached in
    let size = place_of bytes h.place count elements whole h.reached in
    let longer = length-append h.before (60 ∷ rest) in
    let at_is = h.at_is in
    let here : length bytes - length (60 ∷ rest) ≡ at = omega arith in
    let stand = subst (λ (es : List OpenElement). MayStand es h.before) (sym a.elements_are) h.may_stand in
    let text : read_text a.seen (length bytes - length whole) whole ≡ Ok (60 ∷ rest) = text_again a.seen (length bytes - length whole) h.before (60 ∷ rest) h.is_text no_text_byte stand in
    record {
      seen = a.seen;
      left = a.left;
      count_is = a.count_is;
      elements_are = a.elements_are;
      goes = a.goes
          ∙ step (length bytes) a.left a.seen whole
          ∙ ap (λ (r : Result (List ℕ) TagFault). r >>= λ rest. after_text (length bytes) a.left a.seen rest) text
          ∙ ap (λ (q : ℕ). read_mark a.seen q rest >>= λ mark. tags_from (length bytes) a.left mark.0 mark.1) here;
    }

mark_err : (bytes : List ℕ) (at count : ℕ) (elements : List OpenElement) (rest : List ℕ) (f : TagFault) (m : MarkIs bytes at count elements rest) → read_mark m.seen at rest ≡ Err f → tags_of bytes ≡ Err f
mark_err bytes at count elements rest f m e = m.goes ∙ ap (λ (r : Result (Seen × List ℕ) TagFault). r >>= λ mark. tags_from (length bytes) m.left mark.0 mark.1) e

bad_read : (seen : Seen) (at : ℕ) (rest : List ℕ) (k : TagKind) → mark_at rest ≡ Err k → read_mark seen at rest ≡ Err (fault_at k at)
unfolding read_mark marked_at
bad_read seen at rest k e = rw e refl

bad_mark : (bytes : List ℕ) (k : TagKind) (at : ℕ) → HasBadMark bytes k at → tags_of bytes ≡ Err (fault_at k at)
bad_mark bytes k at h =
    let m = mark_is bytes at h.count h.elements h.rest h.here in
    mark_err bytes at h.count h.elements h.rest (fault_at k at) m (bad_read m.seen at h.rest k (bad_again h.rest k h.bad))

-- text outside
stray_run : (space : List ℕ) (first : ℕ) (rest : List ℕ) → AllPass is_text_byte space → is_text_byte first ≡ true → take_while is_text_byte (space ++ first ∷ rest) ≡ space ++ first ∷ take_while is_text_byte rest
stray_run [] first rest all h = take_while_yes is_text_byte first rest h
stray_run (b ∷ space) first rest all h =
    take_while_yes is_text_byte b (space ++ first ∷ rest) (All-head (λ x. is_text_byte x ≡ true) b space all)
    ∙ ap (λ (t : List ℕ). b ∷ t) (stray_run space first rest (All-tail (λ x. is_text_byte x ≡ true) b space all) h)

stray_text : (bytes : List ℕ) (at : ℕ) → HasStrayText bytes at → tags_of bytes ≡ Err (fault_at kind.BadMark at)
stray_text bytes at h =
    let left = h.space ++ h.first ∷ h.rest in
    let a = seen_at bytes h.place h.count [] left h.here in
    let place = length bytes - length left in
    let size = place_of bytes h.place h.count [] left h.here in
    let run = stray_run h.space h.first h.rest (spaces_are_text h.space h.white) h.is_text in
    let tail = h.first ∷ take_while is_text_byte h.rest in
    let spaces : take_while is_space (take_while is_text_byte left) ≡ h.space = ap (take_while is_space) run ∙ run_again is_space h.space tail h.white h.no_space in
    let others : past is_space (take_while is_text_byte left) ≡ tail = ap (past is_space) run ∙ past_again is_space h.space tail h.white h.no_space in
    let some : 0 < length (past is_space (take_while is_text_byte left)) = omega (arith, ap length others) in
    let at_is : place + length (take_while is_space (take_while is_text_byte left)) ≡ at = omega (arith, ap length spaces, h.at_is) in
    a.goes
    ∙ step (length bytes) a.left a.seen left
    ∙ ap (λ (r : Result (List ℕ) TagFault). r >>= λ rest. after_text (length bytes) a.left a.seen rest) (text_stays a.seen place left (ap length a.elements_are) some)
    ∙ ap (λ (n : ℕ). Err (fault_at kind.BadMark n)) at_is

-- a mark that fits and may not follow
other_read : (seen : Seen) (at : ℕ) (rest after : List ℕ) (m : Mark) (k : TagKind) → mark_at rest ≡ Ok (m, after) → marked seen at m ≡ Err k → read_mark seen at rest ≡ Err (fault_at k at)
unfolding read_mark marked_at
other_read seen at rest after m k read wrong = rw (read, wrong) refl

other_mark : (bytes : List ℕ) (at count : ℕ) (elements : List OpenElement) (rest after : List ℕ) (w : WrittenMark) (k : TagKind) → AtMark bytes at count elements rest → IsMark w → codes "<" ++ rest ≡ mark_text w ++ after
    → ((seen : Seen) → length seen.tags ≡ count → seen.open_elements ≡ elements → marked seen at (mark_of_written w) ≡ Err k) → tags_of bytes ≡ Err (fault_at k at)
other_mark bytes at count elements rest after w k here is text wrong =
    let m = mark_is bytes at count elements rest here in
    mark_err bytes at count elements rest (fault_at k at) m (other_read m.seen at rest after (mark_of_written w) k (mark_complete w rest after is text) (wrong m.seen m.count_is m.elements_are))

no_data : (seen : Seen) → seen.open_elements ≡ [] → with_data seen ≡ Err kind.BadMark
unfolding with_data
no_data seen none = rw none refl

stray_data : (bytes : List ℕ) (at : ℕ) → HasStrayData bytes at → tags_of bytes ≡ Err (fault_at kind.BadMark at)
stray_data bytes at h = other_mark bytes at h.count [] h.rest h.after (Data h.inside) kind.BadMark h.here h.is_mark h.text (λ seen _ none. no_data seen none)

start_fault : (bytes : List ℕ) (at count : ℕ) (elements : List OpenElement) (s : WrittenStart) (k : TagKind) → AtStart bytes at count elements s → ((seen : Seen) → length seen.tags ≡ count → seen.open_elements ≡ elements → started seen at (start_of s) ≡ Err k)
    → tags_of bytes ≡ Err (fault_at k at)
start_fault bytes at count elements s k h wrong = other_mark bytes at count elements h.rest h.after (Start s) k h.here h.is_start h.text wrong

abbrev Answer : Seen → ℕ → WrittenStart → Type 0
Answer seen at s = StartAnswer seen s (started seen at (start_of s)) (entered (with_tag seen at (start_of s)) at (start_of s))

second_wrong : (seen : Seen) (at : ℕ) (s : WrittenStart) → seen.open_elements ≡ [] → 0 < length seen.tags → started seen at (start_of s) ≡ Err kind.BadMark
second_wrong seen at s none some = by_answer (answer_of seen at s)
  where
    clash : second seen ≡ false → ⊥
    clash h = elim (inside_is seen h) [ inl zero ↦ omega arith | inr more ↦ more none ]

    by_answer : Answer seen at s → started seen at (start_of s) ≡ Err kind.BadMark
    by_answer (ASecond h r) = r
    by_answer (ATwice h i r) = absurd (clash h)
    by_answer (ADeep h i j r) = absurd (clash h)
    by_answer (AMany h i j k r) = absurd (clash h)
    by_answer (ATaken h i j k r) = absurd (clash h)

second_start : (bytes : List ℕ) (at : ℕ) → HasSecond bytes at → tags_of bytes ≡ Err (fault_at kind.BadMark at)
second_start bytes at h = start_fault bytes at h.count [] h.s kind.BadMark h.here (λ seen count none. let some = h.second in second_wrong seen at h.s none (omega arith))

-- inside an element, or the first one
not_second : (seen : Seen) → (length seen.tags ≡ 0) ⊎ (seen.open_elements ≢ []) → second seen ≡ true → ⊥
not_second seen inside h =
    let both = second_is seen h in
    elim inside [ inl zero ↦ let some = both.1 in omega arith | inr more ↦ more both.0 ]

inside_seen : (seen : Seen) (count : ℕ) (elements : List OpenElement) → (count ≡ 0) ⊎ (elements ≢ []) → length seen.tags ≡ count → seen.open_elements ≡ elements → (length seen.tags ≡ 0) ⊎ (seen.open_elements ≢ [])
inside_seen seen count elements (inl zero) c e = inl (c ∙ zero)
inside_seen seen count elements (inr more) c e = inr (λ none. more (sym e ∙ none))

twice_wrong : (seen : Seen) (at : ℕ) (s : WrittenStart) → (second seen ≡ true → ⊥) → (AreDistinct s → ⊥) → started seen at (start_of s) ≡ Err kind.Twice
twice_wrong seen at s inner alike = by_answer (answer_of seen at s)
  where
    by_answer : Answer seen at s → started seen at (start_of s) ≡ Err kind.Twice
    by_answer (ASecond h r) = absurd (inner h)
    by_answer (ATwice h i r) = r
    by_answer (ADeep h i j r) = absurd (alike (written_distinct s.attrs i))
    by_answer (AMany h i j k r) = absurd (alike (written_distinct s.attrs i))
    by_answer (ATaken h i j k r) = absurd (alike (written_distinct s.attrs i))

differ : (s : WrittenStart) → AreDistinct s → are_distinct (start_of s).attrs ≡ false → ⊥
differ s distinct h = let same : true ≡ false = sym (distinct_again s.attrs distinct) ∙ h in absurd cc

deep_wrong : (seen : Seen) (at : ℕ) (s : WrittenStart) → (second seen ≡ true → ⊥) → AreDistinct s → MAX_DEPTH ≤ length seen.open_elements → started seen at (start_of s) ≡ Err kind.Depth
deep_wrong seen at s inner distinct far = by_answer (answer_of seen at s)
  where
    by_answer : Answer seen at s → started seen at (start_of s) ≡ Err kind.Depth
    by_answer (ASecond h r) = absurd (inner h)
    by_answer (ATwice h i r) = absurd (differ s distinct i)
    by_answer (ADeep h i j r) = r
    by_answer (AMany h i j k r) = absurd (omega arith)
    by_answer (ATaken h i j k r) = absurd (omega arith)

many_wrong : (seen : Seen) (at : ℕ) (s : WrittenStart) → (second seen ≡ true → ⊥) → AreDistinct s → length seen.open_elements < MAX_DEPTH → MAX_TAGS ≤ length seen.tags → started seen at (start_of s) ≡ Err kind.TooMany
many_wrong seen at s inner distinct near full = by_answer (answer_of seen at s)
  where
    by_answer : Answer seen at s → started seen at (start_of s) ≡ Err kind.TooMany
    by_answer (ASecond h r) = absurd (inner h)
    by_answer (ATwice h i r) = absurd (differ s distinct i)
    by_answer (ADeep h i j r) = absurd (omega arith)
    by_answer (AMany h i j k r) = r
    by_answer (ATaken h i j k r) = absurd (omega arith)

twice : (bytes : List ℕ) (at : ℕ) → HasTwice bytes at → tags_of bytes ≡ Err (fault_at kind.Twice at)
twice bytes at h = start_fault bytes at h.count h.elements h.s kind.Twice h.here.here (λ seen count es. twice_wrong seen at h.s (not_second seen (inside_seen seen h.count h.elements h.here.inside count es)) h.alike)

deep : (bytes : List ℕ) (at : ℕ) → HasDepth bytes at → tags_of bytes ≡ Err (fault_at kind.Depth at)
deep bytes at h = start_fault bytes at h.count h.elements h.s kind.Depth h.here.here (λ seen count es. let far = h.deep in deep_wrong seen at h.s (not_second seen (inside_seen seen h.count h.elements h.here.inside count es)) h.distinct (omega (arith, ap length es)))

many : (bytes : List ℕ) (at : ℕ) → HasTooMany bytes at → tags_of bytes ≡ Err (fault_at kind.TooMany at)
many bytes at h = start_fault bytes at h.count h.elements h.s kind.TooMany h.here.here (λ seen count es. let near = h.shallow in let full = h.many in many_wrong seen at h.s (not_second seen (inside_seen seen h.count h.elements h.here.inside count es)) h.distinct (omega (arith, ap length es)) (omega arith))

no_end : (elements : List OpenElement) (name : List ℕ) → (Closes elements name → ⊥) → ended_in elements name ≡ Err kind.Mismatch
no_end [] name h = refl
no_end (innermost ∷ others) name h = by_test (bytes_eq innermost.name name) refl
  where
    by_test : (b : Bool) → bytes_eq innermost.name name ≡ b → cond b (Ok others) (Err kind.Mismatch) ≡ Err kind.Mismatch
    by_test true is = absurd (h (sym ((bytes_eq-Decides innermost.name name).0 is)))
    by_test false is = refl

end_wrong : (seen : Seen) (name : List ℕ) → (Closes seen.open_elements name → ⊥) → ended seen name ≡ Err kind.Mismatch
unfolding ended
end_wrong seen name h = rw (no_end seen.open_elements name h) refl

mismatch : (bytes : List ℕ) (at : ℕ) → HasMismatch bytes at → tags_of bytes ≡ Err (fault_at kind.Mismatch at)
mismatch bytes at h = other_mark bytes at h.count h.elements h.rest h.after (End h.e) kind.Mismatch h.here h.is_end h.text (λ seen _ es. end_wrong seen h.e.name (subst (λ (elements : List OpenElement). Closes elements h.e.name → ⊥) (sym es) h.other))

-- the end of the file
at_end : (bytes : List ℕ) (place count : ℕ) (elements : List OpenElement) (rest : List ℕ) (r : Reached bytes place count elements rest) (f : TagFault) → AllPass is_text_byte rest → MayStand elements rest → ((seen : Seen) → length seen.tags ≡ count → seen.open_elements ≡ elements → finished seen (length bytes) ≡ Err f)
    → tags_of bytes ≡ Err f
at_end bytes place count elements rest r f is_text stand wrong =
    let a = seen_at bytes place count elements rest r in
    let at = length bytes - length rest in
    let text : read_text a.seen at rest ≡ Ok [] = ap (read_text a.seen at) (sym (append-nil rest)) ∙ text_again a.seen at rest [] is_text tt (subst (λ (es : List OpenElement). MayStand es rest) (sym a.elements_are) stand) in
    a.goes
    ∙ step (length bytes) a.left a.seen rest
    ∙ ap (λ (t : Result (List ℕ) TagFault). t >>= λ rest. after_text (length bytes) a.left a.seen rest) text
    ∙ wrong a.seen a.count_is a.elements_are

still_open : (seen : Seen) (size at : ℕ) (name : List ℕ) (others : List OpenElement) → seen.open_elements ≡ record { name = name; place = at } ∷ others → finished seen size ≡ Err (fault_at kind.Unclosed at)
unfolding finished
still_open seen size at name others es = ap (λ (elements : List OpenElement). finished_in elements seen.tags size) es

left_open_fault : (bytes : List ℕ) (at : ℕ) → LeavesOpen bytes at → tags_of bytes ≡ Err (fault_at kind.Unclosed at)
left_open_fault bytes at h = at_end bytes h.place h.count (record { name = h.name; place = at } ∷ h.others) h.rest h.here (fault_at kind.Unclosed at) h.is_text (inl (λ none. cc)) (λ seen _ es. still_open seen (length bytes) at h.name h.others es)

nothing_read : (seen : Seen) (size : ℕ) → length seen.tags ≡ 0 → seen.open_elements ≡ [] → finished seen size ≡ Err (fault_at kind.Unclosed size)
unfolding finished
nothing_read seen size count es = ap (λ (elements : List OpenElement). finished_in elements seen.tags size) es ∙ ap (λ (tags : List Tag). finished_in [] tags size) (nil_from_length seen.tags count)

no_element : (bytes : List ℕ) (at : ℕ) → HasNoElement bytes at → tags_of bytes ≡ Err (fault_at kind.Unclosed at)
no_element bytes at h =
    at_end bytes h.place 0 [] h.rest h.here (fault_at kind.Unclosed (length bytes)) (spaces_are_text h.rest h.white) (inr h.white) (λ seen count es. nothing_read seen (length bytes) count es)
    ∙ ap (λ (n : ℕ). Err (fault_at kind.Unclosed n)) (sym h.at_is)

faulty_of : (bytes : List ℕ) (k : TagKind) (at : ℕ) → HasFaultOf bytes k at → tags_of bytes ≡ Err (fault_at k at)
faulty_of bytes kind.NotUtf8 at h = not_utf8 bytes at h
faulty_of bytes kind.Doctype at h = bad_mark bytes kind.Doctype at h
faulty_of bytes kind.Unclosed at (inl h) = bad_mark bytes kind.Unclosed at h
faulty_of bytes kind.Unclosed at (inr (inl h)) = left_open_fault bytes at h
faulty_of bytes kind.Unclosed at (inr (inr h)) = no_element bytes at h
faulty_of bytes kind.BadMark at (inl h) = bad_mark bytes kind.BadMark at h
faulty_of bytes kind.BadMark at (inr (inl h)) = stray_text bytes at h
faulty_of bytes kind.BadMark at (inr (inr (inl h))) = stray_data bytes at h
faulty_of bytes kind.BadMark at (inr (inr (inr h))) = second_start bytes at h
faulty_of bytes kind.Twice at h = twice bytes at h
faulty_of bytes kind.Depth at h = deep bytes at h
faulty_of bytes kind.TooMany at h = many bytes at h
faulty_of bytes kind.Mismatch at h = mismatch bytes at h
faulty_of bytes kind.Memory at h = absurd h

pub faulty : (bytes : List ℕ) (fault : TagFault) → HasFault bytes fault → tags_of bytes ≡ Err fault
faulty bytes fault h = faulty_of bytes fault.kind fault.at h
