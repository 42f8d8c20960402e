-- What is read of a file stands in it as the grammar says, and where it is refused it has the fault.
use Rattle.std.proofs.Common.{◌≡◌, ℕ, zero, suc, ◌+◌, ◌-◌, ◌<◌, ◌≤◌, Bool, true, false, cond, eqb, not, ◌&&◌, List, [], ◌∷◌, ◌++◌, length, get_or, Option, Some, None, Result, Ok, Err, refl, sym, ap, subst, ◌∙◌, append_assoc, arith, ◌⊎◌, inl, inr}
use Rattle.std.specs.List.{take_while, list_all, AllPass}
use Rattle.std.specs.Str.{IsUtf8, is_utf8}
use Rattle.std.specs.Str.Lossy.{utf8_valid_len}
use Rattle.std.proofs.lemmas.Str.{is_utf8-from_IsUtf8, IsUtf8-from_is_utf8}
use Rattle.rb_tags.proofs.Closes.{not_front}
use Rattle.rb_tags.proofs.Valid.{valid_up_to}
use Rattle.std.proofs.lemmas.Bool.Decides.{nat_tests}
use Rattle.std.proofs.lemmas.List.{length-append, append-nil, nil_from_length, get_or_at}
use Rattle.std.proofs.lemmas.List.Sums.{AllPass-from_list_all}
use Rattle.std.proofs.lemmas.Bool.{eqb-true}
use Rattle.rb_tags.proofs.Between.{all_pass}
use Rattle.rb_tags.specs.declared.tag.Tag.{Tag}
use Rattle.rb_tags.specs.declared.read.TagFault.{TagFault}
use Rattle.rb_tags.specs.declared.read.TagKind.{TagKind}
use Rattle.rb_tags.specs.declared.read.TagKind.TheVariants.{NotUtf8, BadMark, Unclosed}
use Rattle.rb_tags.specs.declared.read.TagKind.TheVariants as kind
use Rattle.rb_tags.specs.Faults.{fault_at}
use Rattle.rb_tags.specs.Bytes.{is_space, is_text_byte, past, after_front}
use Rattle.rb_tags.specs.Seen.{OpenElement, Seen, nothing_seen, marked, marked_at, read_mark, read_text, finished_in, finished}
use Rattle.rb_tags.specs.Marks.{Mark, mark_at}
use Rattle.rb_tags.specs.Tags.{tags_from, order_mark, behind_order_mark, tags_of_text, tags_of}
use Rattle.rb_tags.specs.Grammar.{IsSpace, mark_text, mark_of_written, Part, IsPart, part_text, MayStand, MayFollow, elements_after, left_open, tags_of_mark, tags_in, Accepts}
use Rattle.rb_tags.specs.Refusals.{IsLead, count_in, Reached, AtMark, HasBadMark, HasFaultOf, HasFault}
use Rattle.rb_tags.proofs.Runs.{Stops, past_stops}
use Rattle.rb_tags.proofs.Steps.{past-length, run_split, run_passes, front_takes}
use Rattle.rb_tags.proofs.SoFar.{text_rest, reads_mark, read_no_longer, after_text, step}
use Rattle.rb_tags.proofs.MarkLaws.{mark_sound, mark_refused}
use Rattle.rb_tags.proofs.Parts.{texts, texts_push, are_parts_push, open_push, tags_push, nest_push, count_is}
use Rattle.rb_tags.proofs.Follows.{mark_moves}
use Rattle.rb_tags.proofs.Follows
use Rattle.rb_result.specs.Steps.{◌>>=◌, placed}
use Rattle.rb_result.proofs.Results.{unless-ok, same_ok, same_err}

-- the file is read up to a place, and the rest is left
pub record Known (bytes : List ℕ) (place : ℕ) (seen : Seen) (rest : List ℕ) : Type 0 where
  pub reached : Reached bytes place (length seen.tags) seen.open_elements rest
  pub tags_are : seen.tags ≡ tags_in (length reached.lead) [] reached.parts

-- one more part
more_known : (bytes : List ℕ) (place : ℕ) (seen now : Seen) (p : Part) (rest : List ℕ) → Known bytes place seen (part_text p ++ rest) → IsPart p → MayStand seen.open_elements p.before → MayFollow (length seen.tags) seen.open_elements p.mark
    → now.tags ≡ seen.tags ++ tags_of_mark (place + length p.before) (length seen.open_elements) p.mark → now.open_elements ≡ elements_after (place + length p.before) seen.open_elements p.mark → Known bytes (place + length (part_text p)) now rest
more_known bytes place seen now p rest k is stand follow tags elements =
    let r = k.reached in
    let start = length r.lead in
    let open_then = left_open start [] r.parts in
    let here = place + length p.before in
    let tags_now : now.tags ≡ tags_in start [] (r.parts ++ p ∷ []) =
    tags
    ∙ ap (λ (ts : List Tag). ts ++ tags_of_mark here (length seen.open_elements) p.mark) k.tags_are
    ∙ ap (λ (es : List OpenElement). tags_in start [] r.parts ++ tags_of_mark here (length es) p.mark) r.elements_are
    ∙ ap (λ (n : ℕ). tags_in start [] r.parts ++ tags_of_mark (n + length p.before) (length open_then) p.mark) r.place_is
    ∙ sym (tags_push start [] r.parts p) in
    let stand2 : MayStand open_then p.before = subst (λ (es : List OpenElement). MayStand es p.before) r.elements_are stand in
    let follow2 : MayFollow (count_in 0 r.parts) open_then p.mark = subst (λ (n : ℕ). MayFollow n open_then p.mark) r.count_is (subst (λ (es : List OpenElement). MayFollow (length seen.tags) es p.mark) r.elements_are follow) in
    record {
      reached = record {
        utf8 = r.utf8;
        lead = r.lead;
        parts = r.parts ++ p ∷ [];
        lead_is = r.lead_is;
        are_parts = are_parts_push r.parts p r.are_parts is;
        nest = nest_push start 0 [] r.parts p r.nest stand2 follow2;
        text = r.text ∙ ap (λ (t : List ℕ). r.lead ++ t) (sym (append_assoc (texts r.parts) (part_text p) rest) ∙ ap (λ (t : List ℕ). t ++ rest) (sym (texts_push r.parts p)));
        place_is = omega (arith, r.place_is, ap length (texts_push r.parts p), length-append (texts r.parts) (part_text p));
        count_is = ap length tags_now ∙ omega (arith, count_is start 0 [] (r.parts ++ p ∷ []));
        elements_are = elements ∙ ap (λ (es : List OpenElement). elements_after here es p.mark) r.elements_are ∙ ap (λ (n : ℕ). elements_after (n + length p.before) open_then p.mark) r.place_is ∙ sym (open_push start [] r.parts p);
      };
      tags_are = tags_now;
    }

pub place_of : (bytes : List ℕ) (place count : ℕ) (elements : List OpenElement) (rest : List ℕ) → Reached bytes place count elements rest → length bytes ≡ place + length rest
place_of bytes place count elements rest r = omega (arith, r.place_is, ap length r.text, length-append r.lead (texts r.parts ++ rest), length-append (texts r.parts) rest)

-- text before a mark
text_stands : (seen : Seen) (place : ℕ) (left rest : List ℕ) → read_text seen place left ≡ Ok rest → MayStand seen.open_elements (take_while is_text_byte left)
unfolding read_text
text_stands seen place left rest e =
    let text = take_while is_text_byte left in
    let t = unless-ok (eqb (length seen.open_elements) 0 && not (list_all is_space text)) (fault_at BadMark (place + length (take_while is_space text))) (Ok (past is_text_byte left)) rest e in
    by_test (eqb (length seen.open_elements) 0) refl (list_all is_space text) refl t.0
  where
    by_test : (a : Bool) → eqb (length seen.open_elements) 0 ≡ a → (b : Bool) → list_all is_space (take_while is_text_byte left) ≡ b → (a && not b) ≡ false → MayStand seen.open_elements (take_while is_text_byte left)
    by_test false h b g f = inl (λ none. let zero : length seen.open_elements ≡ 0 = ap length none in absurd (grind (arith, nat_tests)))
    by_test true h true g f = inr (AllPass-from_list_all is_space (take_while is_text_byte left) g)
    by_test true h false g f = absurd cc

-- a text that is not white space
record Stray (text : List ℕ) : Type 0 where
  first : ℕ
  others : List ℕ
  split : text ≡ take_while is_space text ++ first ∷ others
  no_space : is_space first ≡ false
  text_byte : is_text_byte first ≡ true

stray_in : (text : List ℕ) → AllPass is_text_byte text → list_all is_space text ≡ false → Stray text
stray_in text all some = by_rest (past is_space text) refl
  where
    by_rest : (rest : List ℕ) → past is_space text ≡ rest → Stray text
    by_rest [] none = absurd (let every : list_all is_space text ≡ true = all_pass is_space text (ap length none) in let same : true ≡ false = sym every ∙ some in cc)
    by_rest (b ∷ bs) is =
        let split : text ≡ take_while is_space text ++ b ∷ bs = run_split is_space text ∙ ap (λ (t : List ℕ). take_while is_space text ++ t) is in
        let longer = ap length split ∙ length-append (take_while is_space text) (b ∷ bs) in
        record {
          first = b;
          others = bs;
          split = split;
          no_space = subst (λ (t : List ℕ). Stops is_space t) is (past_stops is_space text);
          text_byte = ap is_text_byte (sym (ap (λ (t : List ℕ). get_or t (length (take_while is_space text)) 0) split ∙ get_or_at (take_while is_space text) b bs 0 (length (take_while is_space text)) refl)) ∙ all (length (take_while is_space text)) 0 (omega arith);
        }

text_faults : (bytes : List ℕ) (place : ℕ) (seen : Seen) (left : List ℕ) (f : TagFault) → Known bytes place seen left → read_text seen place left ≡ Err f → HasFault bytes f
unfolding read_text
text_faults bytes place seen left f k e = by_test (eqb (length seen.open_elements) 0) refl (list_all is_space (take_while is_text_byte left)) refl e
  where
    by_test : (a : Bool) → eqb (length seen.open_elements) 0 ≡ a → (b : Bool) → list_all is_space (take_while is_text_byte left) ≡ b
        → cond (a && not b) (Err (fault_at BadMark (place + length (take_while is_space (take_while is_text_byte left))))) (Ok (past is_text_byte left)) ≡ Err f → HasFault bytes f
    by_test false h b g given = absurd cc
    by_test true h true g given = absurd cc
    by_test true h false g given =
        let text = take_while is_text_byte left in
        let space = take_while is_space text in
        let s = stray_in text (run_passes is_text_byte left) g in
        let none : seen.open_elements ≡ [] = nil_from_length seen.open_elements (eqb-true (length seen.open_elements) 0 h) in
        let split : left ≡ space ++ s.first ∷ (s.others ++ past is_text_byte left) = run_split is_text_byte left ∙ ap (λ (t : List ℕ). t ++ past is_text_byte left) s.split ∙ append_assoc space (s.first ∷ s.others) (past is_text_byte left) in
        subst (λ (y : TagFault). HasFault bytes y) (same_err (fault_at BadMark (place + length space)) f given) (inr (inl (record {
          place = place;
          count = length seen.tags;
          space = space;
          first = s.first;
          rest = s.others ++ past is_text_byte left;
          here = subst (λ (t : List ℕ). Reached bytes place (length seen.tags) [] t) split (subst (λ (es : List OpenElement). Reached bytes place (length seen.tags) es left) none k.reached);
          white = run_passes is_space text;
          no_space = s.no_space;
          is_text = s.text_byte;
          at_is = refl;
        })))

-- a text and the < after it
record Before (bytes : List ℕ) (place : ℕ) (seen : Seen) (left rest behind : List ℕ) : Type 0 where
  before : List ℕ
  split : left ≡ before ++ 60 ∷ behind
  at_is : length bytes - length rest ≡ place + length before
  is_text : AllPass is_text_byte before
  stand : MayStand seen.open_elements before

before_mark : (bytes : List ℕ) (place : ℕ) (seen : Seen) (left rest behind : List ℕ) → Known bytes place seen left → read_text seen place left ≡ Ok rest → rest ≡ 60 ∷ behind → Before bytes place seen left rest behind
before_mark bytes place seen left rest behind k t is =
    let before = take_while is_text_byte left in
    let split : left ≡ before ++ rest = run_split is_text_byte left ∙ ap (λ (r : List ℕ). before ++ r) (sym (text_rest seen place left rest t)) in
    let whole = place_of bytes place (length seen.tags) seen.open_elements left k.reached in
    let longer = ap length split ∙ length-append before rest in
    record {
      before = before;
      split = split ∙ ap (λ (r : List ℕ). before ++ r) is;
      at_is = omega arith;
      is_text = run_passes is_text_byte left;
      stand = text_stands seen place left rest t;
    }

-- a mark
mark_known : (bytes : List ℕ) (place : ℕ) (seen now : Seen) (left rest behind after : List ℕ) → Known bytes place seen left → read_text seen place left ≡ Ok rest → rest ≡ 60 ∷ behind → read_mark seen (length bytes - length rest) behind ≡ Ok (now, after)
    → (next : ℕ) × Known bytes next now after
mark_known bytes place seen now left rest behind after k t is e =
    let b = before_mark bytes place seen left rest behind k t is in
    let m = reads_mark seen (length bytes - length rest) behind now after e in
    let s = mark_sound behind m.mark after m.is_mark in
    let p : Part = record { before = b.before; mark = s.written } in
    let moved : marked seen (place + length b.before) (mark_of_written s.written) ≡ Ok now = ap (λ (q : ℕ). marked seen q (mark_of_written s.written)) (sym b.at_is) ∙ ap (λ (w : Mark). marked seen (length bytes - length rest) w) (sym s.mark) ∙ m.moves in
    let moves = mark_moves seen (place + length b.before) s.written now moved in
    let split : left ≡ part_text p ++ after = b.split ∙ ap (λ (r : List ℕ). b.before ++ r) s.text ∙ sym (append_assoc b.before (mark_text s.written) after) in
    (place + length (part_text p), more_known bytes place seen now p after (subst (λ (r : List ℕ). Known bytes place seen r) split k) (record { before = b.is_text; mark = s.is_mark }) b.stand moves.follow moves.tags moves.elements)

at_mark : (bytes : List ℕ) (place : ℕ) (seen : Seen) (left rest behind : List ℕ) → Known bytes place seen left → Before bytes place seen left rest behind → AtMark bytes (length bytes - length rest) (length seen.tags) seen.open_elements behind
at_mark bytes place seen left rest behind k b = record {
  place = place;
  before = b.before;
  reached = subst (λ (r : List ℕ). Reached bytes place (length seen.tags) seen.open_elements r) b.split k.reached;
  is_text = b.is_text;
  may_stand = b.stand;
  at_is = b.at_is;
}

bad_mark : (bytes : List ℕ) (kind : TagKind) (at : ℕ) → HasBadMark bytes kind at → HasFaultOf bytes kind at
bad_mark bytes kind.Doctype at h = h
bad_mark bytes kind.Unclosed at h = inl h
bad_mark bytes kind.BadMark at h = inl h
bad_mark bytes kind.NotUtf8 at h = absurd h.bad
bad_mark bytes kind.Twice at h = absurd h.bad
bad_mark bytes kind.Depth at h = absurd h.bad
bad_mark bytes kind.TooMany at h = absurd h.bad
bad_mark bytes kind.Mismatch at h = absurd h.bad
bad_mark bytes kind.Memory at h = absurd h.bad

mark_faults : (bytes : List ℕ) (place : ℕ) (seen : Seen) (left rest behind : List ℕ) (f : TagFault) → Known bytes place seen left → read_text seen place left ≡ Ok rest → rest ≡ 60 ∷ behind → read_mark seen (length bytes - length rest) behind ≡ Err f → HasFault bytes f
unfolding read_mark marked_at
mark_faults bytes place seen left rest behind f k t is e = by_mark (mark_at behind) refl e
  where
    by_now : (at : ℕ) → AtMark bytes at (length seen.tags) seen.open_elements behind → (m : Mark) (after : List ℕ) → mark_at behind ≡ Ok (m, after) → (q : Result Seen TagKind) → marked seen at m ≡ q → placed {A = Seen × List ℕ} fault_at at (q >>= λ now. Ok (now, after)) ≡ Err f → HasFault bytes f
    by_now at here m after read (Ok now) marks given = absurd cc
    by_now at here m after read (Err kind) marks given =
        let s = mark_sound behind m after read in
        let fails : marked seen at (mark_of_written s.written) ≡ Err kind = ap (λ (w : Mark). marked seen at w) (sym s.mark) ∙ marks in
        subst (λ (y : TagFault). HasFault bytes y) (same_err (fault_at kind at) f given) (Follows.mark_fails bytes behind after at seen here s.written kind s.is_mark s.text fails)

    by_mark : (o : Result (Mark × List ℕ) TagKind) → mark_at behind ≡ o → placed {A = Seen × List ℕ} fault_at (length bytes - length rest) (o >>= λ mark. marked seen (length bytes - length rest) mark.0 >>= λ now. Ok (now, mark.1)) ≡ Err f → HasFault bytes f
    by_mark (Ok (m, after)) read given = by_now (length bytes - length rest) (at_mark bytes place seen left rest behind k (before_mark bytes place seen left rest behind k t is)) m after read (marked seen (length bytes - length rest) m) refl given
    by_mark (Err kind) read given =
        let at = length bytes - length rest in
        subst (λ (y : TagFault). HasFault bytes y) (same_err (fault_at kind at) f given) (bad_mark bytes kind at (record {
          count = length seen.tags;
          elements = seen.open_elements;
          rest = behind;
          here = at_mark bytes place seen left rest behind k (before_mark bytes place seen left rest behind k t is);
          bad = mark_refused behind kind read;
        }))

-- the end
only_text : (seen : Seen) (place : ℕ) (left : List ℕ) → read_text seen place left ≡ Ok [] → left ≡ take_while is_text_byte left
only_text seen place left t = run_split is_text_byte left ∙ ap (λ (r : List ℕ). take_while is_text_byte left ++ r) (sym (text_rest seen place left [] t)) ∙ append-nil (take_while is_text_byte left)

only_space : (seen : Seen) (place : ℕ) (left : List ℕ) → read_text seen place left ≡ Ok [] → seen.open_elements ≡ [] → IsSpace left
only_space seen place left t none = elim (text_stands seen place left [] t) [
  | inl some ↦ absurd (some none)
  | inr space ↦ subst (λ (r : List ℕ). IsSpace r) (sym (only_text seen place left t)) space
]

either : (bytes lead : List ℕ) → IsLead bytes lead → (lead ≡ []) ⊎ (lead ≡ order_mark)
either bytes lead (inl mark) = inr mark
either bytes lead (inr none) = inl none.0

end_accepts : (bytes : List ℕ) (place : ℕ) (seen : Seen) (left : List ℕ) (tags : List Tag) → Known bytes place seen left → read_text seen place left ≡ Ok [] → finished seen (length bytes) ≡ Ok tags → Accepts bytes tags
unfolding finished
end_accepts bytes place seen left tags k t e = by_open seen.open_elements seen.tags refl refl e
  where
    by_open : (elements : List OpenElement) (ts : List Tag) → seen.open_elements ≡ elements → seen.tags ≡ ts → finished_in elements ts (length bytes) ≡ Ok tags → Accepts bytes tags
    by_open (innermost ∷ others) ts h g given = absurd cc
    by_open [] [] h g given = absurd cc
    by_open [] (x ∷ ts) h g given =
        let r = k.reached in
        let all : tags ≡ x ∷ ts = sym (same_ok (x ∷ ts) tags given) in
        record {
          utf8 = r.utf8;
          lead = r.lead;
          parts = r.parts;
          last = left;
          lead_is = either bytes r.lead r.lead_is;
          are_parts = r.are_parts;
          nest = r.nest;
          closed = sym r.elements_are ∙ h;
          last_space = only_space seen place left t h;
          text = r.text;
          tags_are = all ∙ sym g ∙ k.tags_are;
          some = λ none. let clash : x ∷ ts ≡ [] = sym all ∙ none in cc;
        }

end_faults : (bytes : List ℕ) (place : ℕ) (seen : Seen) (left : List ℕ) (f : TagFault) → Known bytes place seen left → read_text seen place left ≡ Ok [] → finished seen (length bytes) ≡ Err f → HasFault bytes f
unfolding finished
end_faults bytes place seen left f k t e = by_open seen.open_elements seen.tags refl refl e
  where
    by_open : (elements : List OpenElement) (ts : List Tag) → seen.open_elements ≡ elements → seen.tags ≡ ts → finished_in elements ts (length bytes) ≡ Err f → HasFault bytes f
    by_open (innermost ∷ others) ts h g given = subst (λ (y : TagFault). HasFault bytes y) (same_err (fault_at Unclosed innermost.place) f given) (inr (inl (record {
      place = place;
      count = length seen.tags;
      name = innermost.name;
      others = others;
      rest = left;
      here = subst (λ (es : List OpenElement). Reached bytes place (length seen.tags) es left) h k.reached;
      is_text = subst (λ (r : List ℕ). AllPass is_text_byte r) (sym (only_text seen place left t)) (run_passes is_text_byte left);
    })))
    by_open [] [] h g given = subst (λ (y : TagFault). HasFault bytes y) (same_err (fault_at Unclosed (length bytes)) f given) (inr (inr (record {
      place = place;
      rest = left;
      here = subst (λ (n : ℕ). Reached bytes place n [] left) (ap length g) (subst (λ (es : List OpenElement). Reached bytes place (length seen.tags) es left) h k.reached);
      white = only_space seen place left t h;
      at_is = refl;
    })))
    by_open [] (x ∷ ts) h g given = absurd cc

mark_byte : (b : ℕ) → is_text_byte b ≡ false → b ≡ 60
unfolding is_text_byte
mark_byte b h = grind (arith, nat_tests)

abbrev pub Judged : List ℕ → Result (List Tag) TagFault → Type 0
Judged bytes (Ok tags) = Accepts bytes tags
Judged bytes (Err f) = HasFault bytes f

abbrev JudgedNext : ℕ → List ℕ → Type 0
JudgedNext n bytes = (place : ℕ) (seen : Seen) (left : List ℕ) (r : Result (List Tag) TagFault) → Known bytes place seen left → length left < n → tags_from (length bytes) n seen left ≡ r → Judged bytes r

judged_mark : (bytes : List ℕ) (n place : ℕ) (seen : Seen) (left behind : List ℕ) (r : Result (List Tag) TagFault) → JudgedNext n bytes → Known bytes place seen left → length left ≤ n → read_text seen place left ≡ Ok (60 ∷ behind)
    → (m : Result (Seen × List ℕ) TagFault) → read_mark seen (length bytes - length (60 ∷ behind)) behind ≡ m → (m >>= λ mark. tags_from (length bytes) n mark.0 mark.1) ≡ r → Judged bytes r
judged_mark bytes n place seen left behind r next k enough t (Err f) e whole = subst (λ (y : Result (List Tag) TagFault). Judged bytes y) whole (mark_faults bytes place seen left (60 ∷ behind) behind f k t refl e)
judged_mark bytes n place seen left behind r next k enough t (Ok (now, after)) e whole =
    let m = mark_known bytes place seen now left (60 ∷ behind) behind after k t refl e in
    let less = read_no_longer seen (length bytes - length (60 ∷ behind)) behind now after e in
    let shorter = past-length is_text_byte left in
    let rest_is = ap length (text_rest seen place left (60 ∷ behind) t) in
    next m.0 now after r m.1 (omega arith) whole

judged_text : (bytes : List ℕ) (n place : ℕ) (seen : Seen) (left : List ℕ) (r : Result (List Tag) TagFault) → JudgedNext n bytes → Known bytes place seen left → length left ≤ n → (t : Result (List ℕ) TagFault) → read_text seen place left ≡ t → (t >>= λ rest. after_text (length bytes) n seen rest) ≡ r → Judged bytes r
judged_text bytes n place seen left r next k enough (Err f) e whole = subst (λ (y : Result (List Tag) TagFault). Judged bytes y) whole (text_faults bytes place seen left f k e)
judged_text bytes n place seen left r next k enough (Ok []) e whole = at_end r whole
  where
    at_end : (r : Result (List Tag) TagFault) → finished seen (length bytes) ≡ r → Judged bytes r
    at_end (Ok tags) f = end_accepts bytes place seen left tags k e f
    at_end (Err d) f = end_faults bytes place seen left d k e f
judged_text bytes n place seen left r next k enough (Ok (b ∷ behind)) e whole =
    let rest_is : b ∷ behind ≡ past is_text_byte left = text_rest seen place left (b ∷ behind) e in
    let first : b ≡ 60 = mark_byte b (subst (λ (t : List ℕ). Stops is_text_byte t) (sym rest_is) (past_stops is_text_byte left)) in
    let e2 : read_text seen place left ≡ Ok (60 ∷ behind) = e ∙ ap (λ (c : ℕ). Ok (c ∷ behind)) first in
    judged_mark bytes n place seen left behind r next k enough e2 (read_mark seen (length bytes - length (60 ∷ behind)) behind) refl whole

judged : (n : ℕ) (bytes : List ℕ) → JudgedNext n bytes
judged zero bytes place seen left r k enough whole = absurd (omega arith)
judged (suc n) bytes place seen left r k enough whole =
    let here : length bytes - length left ≡ place = omega (arith, place_of bytes place (length seen.tags) seen.open_elements left k.reached) in
    judged_text bytes n place seen left r (judged n bytes) k (omega arith) (read_text seen place left) refl (ap (λ (q : ℕ). read_text seen q left >>= λ rest. after_text (length bytes) n seen rest) (sym here) ∙ sym (step (length bytes) n seen left) ∙ whole)

-- the beginning of a file
known_start : (bytes : List ℕ) → IsUtf8 bytes → (place : ℕ) × Known bytes place nothing_seen (behind_order_mark (after_front order_mark bytes) bytes)
known_start bytes valid = by_mark (after_front order_mark bytes) refl
  where
    by_mark : (o : Option (List ℕ)) → after_front order_mark bytes ≡ o → (place : ℕ) × Known bytes place nothing_seen (behind_order_mark o bytes)
    by_mark (Some rest) is = (
      3,
      record {
        reached = record {
          utf8 = valid;
          lead = order_mark;
          parts = [];
          lead_is = inl refl;
          are_parts = tt;
          nest = tt;
          text = front_takes order_mark bytes rest is;
          place_is = refl;
          count_is = refl;
          elements_are = refl;
        };
        tags_are = refl;
      },
    )
    by_mark None is = (
      0,
      record {
        reached = record { utf8 = valid; lead = []; parts = []; lead_is = inr (refl, λ rest text. not_front order_mark bytes is (record { rest = rest; text = text })); are_parts = tt; nest = tt; text = refl; place_is = refl; count_is = refl; elements_are = refl };
        tags_are = refl;
      },
    )

pub judged_file : (bytes : List ℕ) (r : Result (List Tag) TagFault) → tags_of bytes ≡ r → Judged bytes r
unfolding tags_of tags_of_text
judged_file bytes r whole = by_test (is_utf8 bytes) refl whole
  where
    by_test : (b : Bool) → is_utf8 bytes ≡ b → cond b (tags_of_text bytes) (Err (fault_at NotUtf8 (utf8_valid_len bytes))) ≡ r → Judged bytes r
    by_test false h given =
        let other : ¬ (IsUtf8 bytes) = λ valid. let same : true ≡ false = sym (is_utf8-from_IsUtf8 bytes valid) ∙ h in absurd cc in
        subst (λ (y : Result (List Tag) TagFault). Judged bytes y) given (valid_up_to bytes other)
    by_test true h given =
        let start = known_start bytes (IsUtf8-from_is_utf8 bytes h) in
        let left = behind_order_mark (after_front order_mark bytes) bytes in
        let whole_length = place_of bytes start.0 0 [] left start.1.reached in
        judged (suc (length bytes)) bytes start.0 nothing_seen left r start.1 (omega arith) given

pub sound : (bytes : List ℕ) (tags : List Tag) → tags_of bytes ≡ Ok tags → Accepts bytes tags
sound bytes tags e = judged_file bytes (Ok tags) e

pub refused : (bytes : List ℕ) (fault : TagFault) → tags_of bytes ≡ Err fault → HasFault bytes fault
refused bytes fault e = judged_file bytes (Err fault) e
