-- What a mark changes, and what is wrong with one that may not follow.
use Rattle.std.proofs.Common.{◌≡◌, ◌≢◌, ℕ, ◌<◌, ◌≤◌, Bool, true, false, cond, eqb, ltb, leb, not, ◌&&◌, List, [], ◌∷◌, ◌++◌, length, codes, Result, Ok, Err, refl, sym, ap, subst, ◌∙◌, arith, ◌⊎◌, inl, inr}
use Rattle.std.specs.Str.{bytes_eq}
use Rattle.std.proofs.lemmas.Bool.{eqb-true, ltb-true, and_parts}
use Rattle.std.proofs.lemmas.Bool.Decides.{nat_tests}
use Rattle.std.proofs.lemmas.Slice.Eq.{bytes_eq-Decides}
use Rattle.std.proofs.lemmas.List.{append-nil, nil_from_length}
use Rattle.rb_tags.specs.declared.tag.TheConstants.{MAX_DEPTH, MAX_TAGS}
use Rattle.rb_tags.specs.declared.tag.Tag.{Tag}
use Rattle.rb_tags.specs.declared.read.TagKind.{TagKind}
use Rattle.rb_tags.specs.declared.read.TagKind.TheVariants.{BadMark, Twice, Depth, TooMany, Mismatch}
use Rattle.rb_tags.specs.Seen.{OpenElement, Seen, are_distinct, with_tag, entered, may_start, started, ended_in, ended, with_data, marked}
use Rattle.rb_tags.specs.Grammar.{WrittenStart, IsStart, start_text, start_of, WrittenEnd, IsEnd, end_text, WrittenMark, Instruction, Comment, Data, Start, End, IsMark, mark_text, mark_of_written, MayStart, MayFollow, Closes, others_of, elements_after, tags_of_mark}
use Rattle.rb_tags.specs.Refusals.{AtMark, AtInner, HasFaultOf}
use Rattle.rb_tags.proofs.Distinct.{written_distinct, distinct_again}
use Rattle.rb_result.specs.Steps.{◌>>=◌}
use Rattle.rb_result.proofs.Results.{then-ok, fault, same_ok, same_err}

-- what was seen before and after a mark
pub record Moves (seen : Seen) (place : ℕ) (w : WrittenMark) (now : Seen) : Type 0 where
  pub follow : MayFollow (length seen.tags) seen.open_elements w
  pub tags : now.tags ≡ seen.tags ++ tags_of_mark place (length seen.open_elements) w
  pub elements : now.open_elements ≡ elements_after place seen.open_elements w

stays : (seen : Seen) (place : ℕ) (w : WrittenMark) → MayFollow (length seen.tags) seen.open_elements w → [] ≡ tags_of_mark place (length seen.open_elements) w → seen.open_elements ≡ elements_after place seen.open_elements w → Moves seen place w seen
stays seen place w follow none same = record { follow = follow; tags = sym (append-nil seen.tags) ∙ ap (λ (t : List Tag). seen.tags ++ t) none; elements = same }

-- tests, and what they say
abbrev pub second : Seen → Bool
second seen = eqb (length seen.open_elements) 0 && ltb 0 (length seen.tags)

pub inside_is : (seen : Seen) → second seen ≡ false → (length seen.tags ≡ 0) ⊎ (seen.open_elements ≢ [])
inside_is seen h = by_test (eqb (length seen.open_elements) 0) refl h
  where
    by_test : (b : Bool) → eqb (length seen.open_elements) 0 ≡ b → (b && ltb 0 (length seen.tags)) ≡ false → (length seen.tags ≡ 0) ⊎ (seen.open_elements ≢ [])
    by_test true e g = inl (grind (arith, nat_tests))
    by_test false e g = inr (λ none. let zero : length seen.open_elements ≡ 0 = ap length none in absurd (grind (arith, nat_tests)))

pub second_is : (seen : Seen) → second seen ≡ true → (seen.open_elements ≡ []) × (0 < length seen.tags)
second_is seen h =
    let both = and_parts (eqb (length seen.open_elements) 0) (ltb 0 (length seen.tags)) h in
    (nil_from_length seen.open_elements (eqb-true (length seen.open_elements) 0 both.0), ltb-true 0 (length seen.tags) both.1)

not_true : (b : Bool) → not b ≡ true → b ≡ false
not_true true e = absurd cc
not_true false e = refl

not_false : (b : Bool) → not b ≡ false → b ≡ true
not_false true e = refl
not_false false e = absurd cc

-- how a start tag is taken
pub data StartAnswer (seen : Seen) (s : WrittenStart) (r : Result Seen TagKind) (taken : Seen) : Type 0 where
  ASecond : second seen ≡ true → r ≡ Err BadMark → StartAnswer seen s r taken
  ATwice : second seen ≡ false → are_distinct (start_of s).attrs ≡ false → r ≡ Err Twice → StartAnswer seen s r taken
  ADeep : second seen ≡ false → are_distinct (start_of s).attrs ≡ true → MAX_DEPTH ≤ length seen.open_elements → r ≡ Err Depth → StartAnswer seen s r taken
  AMany : second seen ≡ false → are_distinct (start_of s).attrs ≡ true → length seen.open_elements < MAX_DEPTH → MAX_TAGS ≤ length seen.tags → r ≡ Err TooMany → StartAnswer seen s r taken
  ATaken : second seen ≡ false → are_distinct (start_of s).attrs ≡ true → length seen.open_elements < MAX_DEPTH → length seen.tags < MAX_TAGS → r ≡ Ok taken → StartAnswer seen s r taken

abbrev stands : Result (Unit {0}) TagKind
stands = Ok tt

pub answer_of : (seen : Seen) (place : ℕ) (s : WrittenStart) → StartAnswer seen s (started seen place (start_of s)) (entered (with_tag seen place (start_of s)) place (start_of s))
unfolding started may_start
answer_of seen place s = by_tests (entered (with_tag seen place (start_of s)) place (start_of s)) (second seen) (are_distinct (start_of s).attrs) (leb MAX_DEPTH (length seen.open_elements)) (leb MAX_TAGS (length seen.tags)) refl refl refl refl
  where
    by_tests : (taken : Seen) (a b c d : Bool) → second seen ≡ a → are_distinct (start_of s).attrs ≡ b → leb MAX_DEPTH (length seen.open_elements) ≡ c → leb MAX_TAGS (length seen.tags) ≡ d
        → StartAnswer seen s (cond a (Err BadMark) (cond (not b) (Err Twice) (cond c (Err Depth) (cond d (Err TooMany) stands))) >>= λ _. Ok taken) taken
    by_tests taken true b c d h i j k = ASecond h refl
    by_tests taken false false c d h i j k = ATwice h i refl
    by_tests taken false true true d h i j k = ADeep h i (grind (arith, nat_tests)) refl
    by_tests taken false true false true h i j k = AMany h i (grind (arith, nat_tests)) (grind (arith, nat_tests)) refl
    by_tests taken false true false false h i j k = ATaken h i (grind (arith, nat_tests)) (grind (arith, nat_tests)) refl

entered_tags : (seen : Seen) (place : ℕ) (s : WrittenStart) → (entered (with_tag seen place (start_of s)) place (start_of s)).tags ≡ seen.tags ++ tags_of_mark place (length seen.open_elements) (Start s)
entered_tags seen place s = by_closing s.closes
  where
    by_closing : (b : Bool) → (cond b (with_tag seen place (start_of s)) (record { tags = (with_tag seen place (start_of s)).tags; open_elements = record { name = s.name; place = place } ∷ seen.open_elements })).tags ≡ seen.tags ++ tags_of_mark place (length seen.open_elements) (Start s)
    by_closing true = refl
    by_closing false = refl

entered_open : (seen : Seen) (place : ℕ) (s : WrittenStart) → (entered (with_tag seen place (start_of s)) place (start_of s)).open_elements ≡ elements_after place seen.open_elements (Start s)
entered_open seen place s = by_closing s.closes
  where
    by_closing : (b : Bool) → (cond b (with_tag seen place (start_of s)) (record { tags = (with_tag seen place (start_of s)).tags; open_elements = record { name = s.name; place = place } ∷ seen.open_elements })).open_elements ≡ cond b seen.open_elements (record { name = s.name; place = place } ∷ seen.open_elements)
    by_closing true = refl
    by_closing false = refl

start_moves : (seen : Seen) (place : ℕ) (s : WrittenStart) (now : Seen) → started seen place (start_of s) ≡ Ok now → Moves seen place (Start s) now
start_moves seen place s now e = by_answer (answer_of seen place s)
  where
    by_answer : StartAnswer seen s (started seen place (start_of s)) (entered (with_tag seen place (start_of s)) place (start_of s)) → Moves seen place (Start s) now
    by_answer (ASecond h r) = absurd cc
    by_answer (ATwice h i r) = absurd cc
    by_answer (ADeep h i j r) = absurd cc
    by_answer (AMany h i j k r) = absurd cc
    by_answer (ATaken h i j k r) = subst (λ (y : Seen). Moves seen place (Start s) y) (same_ok (entered (with_tag seen place (start_of s)) place (start_of s)) now (sym r ∙ e)) (record {
      follow = record { inside = inside_is seen h; distinct = written_distinct s.attrs i; depth = j; room = k };
      tags = entered_tags seen place s;
      elements = entered_open seen place s;
    })

ended_open : (elements : List OpenElement) (name : List ℕ) (others : List OpenElement) → ended_in elements name ≡ Ok others → Closes elements name × (others ≡ others_of elements)
ended_open [] name others e = absurd cc
ended_open (innermost ∷ elements) name others e = by_test (bytes_eq innermost.name name) refl e
  where
    by_test : (b : Bool) → bytes_eq innermost.name name ≡ b → cond b (Ok elements) (Err Mismatch) ≡ Ok others → (name ≡ innermost.name) × (others ≡ elements)
    by_test true h given = (sym ((bytes_eq-Decides innermost.name name).0 h), sym (same_ok elements others given))
    by_test false h given = absurd cc

end_moves : (seen : Seen) (place : ℕ) (w : WrittenEnd) (now : Seen) → ended seen w.name ≡ Ok now → Moves seen place (End w) now
unfolding ended
end_moves seen place w now e =
    let t = then-ok (ended_in seen.open_elements w.name) (λ others. Ok (record { tags = seen.tags; open_elements = others })) now e in
    let o = ended_open seen.open_elements w.name t.0 t.1 in
    let made : Seen = record { tags = seen.tags; open_elements = t.0 } in
    subst (λ (y : Seen). Moves seen place (End w) y) (same_ok made now t.2) (record { follow = o.0; tags = sym (append-nil seen.tags); elements = o.1 })

data_moves : (seen : Seen) (place : ℕ) (body : List ℕ) (now : Seen) → with_data seen ≡ Ok now → Moves seen place (Data body) now
unfolding with_data
data_moves seen place body now e = by_test (eqb (length seen.open_elements) 0) refl e
  where
    by_test : (b : Bool) → eqb (length seen.open_elements) 0 ≡ b → cond b (Err BadMark) (Ok seen) ≡ Ok now → Moves seen place (Data body) now
    by_test true h given = absurd cc
    by_test false h given = subst (λ (y : Seen). Moves seen place (Data body) y) (same_ok seen now given) (stays seen place (Data body) (λ none. let zero : length seen.open_elements ≡ 0 = ap length none in absurd (grind (arith, nat_tests))) refl refl)

pub mark_moves : (seen : Seen) (place : ℕ) (w : WrittenMark) (now : Seen) → marked seen place (mark_of_written w) ≡ Ok now → Moves seen place w now
mark_moves seen place (Instruction body) now e = subst (λ (y : Seen). Moves seen place (Instruction body) y) (same_ok seen now e) (stays seen place (Instruction body) tt refl refl)
mark_moves seen place (Comment body) now e = subst (λ (y : Seen). Moves seen place (Comment body) y) (same_ok seen now e) (stays seen place (Comment body) tt refl refl)
mark_moves seen place (Data body) now e = data_moves seen place body now e
mark_moves seen place (Start s) now e = start_moves seen place s now e
mark_moves seen place (End w) now e = end_moves seen place w now e

-- the other way: a mark that may follow is taken
start_taken : (seen : Seen) (place : ℕ) (s : WrittenStart) → MayStart (length seen.tags) seen.open_elements s → (now : Seen) × (started seen place (start_of s) ≡ Ok now)
start_taken seen place s may = by_answer (answer_of seen place s)
  where
    by_answer : StartAnswer seen s (started seen place (start_of s)) (entered (with_tag seen place (start_of s)) place (start_of s)) → (now : Seen) × (started seen place (start_of s) ≡ Ok now)
    by_answer (ASecond h r) = absurd (let both = second_is seen h in elim may.inside [ inl zero ↦ let some = both.1 in omega arith | inr some ↦ some both.0 ])
    by_answer (ATwice h i r) = absurd (let distinct = distinct_again s.attrs may.distinct in let same : true ≡ false = sym distinct ∙ i in cc)
    by_answer (ADeep h i j r) = absurd (let depth = may.depth in omega arith)
    by_answer (AMany h i j k r) = absurd (let room = may.room in omega arith)
    by_answer (ATaken h i j k r) = (entered (with_tag seen place (start_of s)) place (start_of s), r)

open_ended : (elements : List OpenElement) (name : List ℕ) → Closes elements name → ended_in elements name ≡ Ok (others_of elements)
open_ended [] name h = absurd h
open_ended (innermost ∷ others) name h = rw ((bytes_eq-Decides innermost.name name).1 (sym h)) refl

end_taken : (seen : Seen) (w : WrittenEnd) → Closes seen.open_elements w.name → (now : Seen) × (ended seen w.name ≡ Ok now)
unfolding ended
end_taken seen w h = (record { tags = seen.tags; open_elements = others_of seen.open_elements }, rw (open_ended seen.open_elements w.name h) refl)

data_taken : (seen : Seen) → seen.open_elements ≢ [] → (now : Seen) × (with_data seen ≡ Ok now)
unfolding with_data
data_taken seen some = by_test (eqb (length seen.open_elements) 0) refl
  where
    by_test : (b : Bool) → eqb (length seen.open_elements) 0 ≡ b → (now : Seen) × (cond b (Err BadMark) (Ok seen) ≡ Ok now)
    by_test true h = absurd (some (nil_from_length seen.open_elements (eqb-true (length seen.open_elements) 0 h)))
    by_test false h = (seen, refl)

pub mark_taken : (seen : Seen) (place : ℕ) (w : WrittenMark) → MayFollow (length seen.tags) seen.open_elements w → (now : Seen) × (marked seen place (mark_of_written w) ≡ Ok now)
mark_taken seen place (Instruction body) h = (seen, refl)
mark_taken seen place (Comment body) h = (seen, refl)
mark_taken seen place (Data body) h = data_taken seen h
mark_taken seen place (Start s) h = start_taken seen place s h
mark_taken seen place (End w) h = end_taken seen w h

-- a mark that may not follow
module _ (bytes rest after : List ℕ) (at : ℕ) (seen : Seen) (here : AtMark bytes at (length seen.tags) seen.open_elements rest) where
  outside : seen.open_elements ≡ [] → AtMark bytes at (length seen.tags) [] rest
  outside none = subst (λ (elements : List OpenElement). AtMark bytes at (length seen.tags) elements rest) none here

  data_fails : (body : List ℕ) (kind : TagKind) → IsMark (Data body) → codes "<" ++ rest ≡ mark_text (Data body) ++ after → with_data seen ≡ Err kind → HasFaultOf bytes kind at
  unfolding with_data
  data_fails body kind is text e = by_test (eqb (length seen.open_elements) 0) refl e
    where
      by_test : (b : Bool) → eqb (length seen.open_elements) 0 ≡ b → cond b (Err BadMark) (Ok seen) ≡ Err kind → HasFaultOf bytes kind at
      by_test true h given = subst (λ (k : TagKind). HasFaultOf bytes k at) (same_err BadMark kind given) (inr (inr (inl (record {
        count = length seen.tags;
        inside = body;
        rest = rest;
        after = after;
        here = outside (nil_from_length seen.open_elements (eqb-true (length seen.open_elements) 0 h));
        is_mark = is;
        text = text;
      }))))
      by_test false h given = absurd cc

  start_fails : (s : WrittenStart) (kind : TagKind) → IsStart s → codes "<" ++ rest ≡ start_text s ++ after → started seen at (start_of s) ≡ Err kind → HasFaultOf bytes kind at
  start_fails s kind is text e = by_answer (answer_of seen at s)
    where
      inner : second seen ≡ false → AtInner bytes at (length seen.tags) seen.open_elements s
      inner h = record { here = record { rest = rest; after = after; here = here; is_start = is; text = text }; inside = inside_is seen h }

      by_answer : StartAnswer seen s (started seen at (start_of s)) (entered (with_tag seen at (start_of s)) at (start_of s)) → HasFaultOf bytes kind at
      by_answer (ASecond h r) =
          let both = second_is seen h in
          subst (λ (k : TagKind). HasFaultOf bytes k at) (same_err BadMark kind (sym r ∙ e)) (inr (inr (inr (record {
            count = length seen.tags;
            s = s;
            here = record { rest = rest; after = after; here = outside both.0; is_start = is; text = text };
            second = both.1;
          }))))
      by_answer (ATwice h i r) = subst (λ (k : TagKind). HasFaultOf bytes k at) (same_err Twice kind (sym r ∙ e)) (record {
        count = length seen.tags;
        elements = seen.open_elements;
        s = s;
        here = inner h;
        alike = λ distinct. let same : true ≡ false = sym (distinct_again s.attrs distinct) ∙ i in absurd cc;
      })
      by_answer (ADeep h i j r) = subst (λ (k : TagKind). HasFaultOf bytes k at) (same_err Depth kind (sym r ∙ e)) (record {
        count = length seen.tags;
        elements = seen.open_elements;
        s = s;
        here = inner h;
        distinct = written_distinct s.attrs i;
        deep = j;
      })
      by_answer (AMany h i j k r) = subst (λ (k : TagKind). HasFaultOf bytes k at) (same_err TooMany kind (sym r ∙ e)) (record {
        count = length seen.tags;
        elements = seen.open_elements;
        s = s;
        here = inner h;
        distinct = written_distinct s.attrs i;
        shallow = j;
        many = k;
      })
      by_answer (ATaken h i j k r) = absurd cc

  not_closed : (elements : List OpenElement) (name : List ℕ) (kind : TagKind) → ended_in elements name ≡ Err kind → (Mismatch ≡ kind) × (Closes elements name → ⊥)
  not_closed [] name kind e = (same_err Mismatch kind e, λ h. h)
  not_closed (innermost ∷ others) name kind e = by_test (bytes_eq innermost.name name) refl e
    where
      by_test : (b : Bool) → bytes_eq innermost.name name ≡ b → cond b (Ok others) (Err Mismatch) ≡ Err kind → (Mismatch ≡ kind) × (name ≡ innermost.name → ⊥)
      by_test true h given = absurd cc
      by_test false h given = (same_err Mismatch kind given, λ same. let equal = (bytes_eq-Decides innermost.name name).1 (sym same) in let clash : true ≡ false = sym equal ∙ h in absurd cc)

  then_err : (r : Result (List OpenElement) TagKind) (kind : TagKind) → (r >>= λ others. Ok (record { tags = seen.tags; open_elements = others })) ≡ fault {A = Seen} kind → r ≡ Err kind
  then_err (Ok x) kind e = absurd cc
  then_err (Err d) kind e = ap (λ (k : TagKind). fault k) (same_err d kind e)

  end_fails : (w : WrittenEnd) (kind : TagKind) → IsEnd w → codes "<" ++ rest ≡ end_text w ++ after → ended seen w.name ≡ Err kind → HasFaultOf bytes kind at
  unfolding ended
  end_fails w kind is text e =
      let n = not_closed seen.open_elements w.name kind (then_err (ended_in seen.open_elements w.name) kind e) in
      subst (λ (k : TagKind). HasFaultOf bytes k at) n.0 (record { count = length seen.tags; elements = seen.open_elements; e = w; rest = rest; after = after; here = here; is_end = is; text = text; other = n.1 })

  pub mark_fails : (w : WrittenMark) (kind : TagKind) → IsMark w → codes "<" ++ rest ≡ mark_text w ++ after → marked seen at (mark_of_written w) ≡ Err kind → HasFaultOf bytes kind at
  mark_fails (Instruction body) kind is text e = absurd cc
  mark_fails (Comment body) kind is text e = absurd cc
  mark_fails (Data body) kind is text e = data_fails body kind is text e
  mark_fails (Start s) kind is text e = start_fails s kind is text e
  mark_fails (End w) kind is text e = end_fails w kind is text e
