-- What is written as the grammar says is read again.
use Rattle.std.proofs.Common.{◌≡◌, ◌≢◌, ℕ, zero, suc, ◌+◌, ◌<◌, ◌≤◌, Bool, true, false, not, eqb, List, [], ◌∷◌, ◌++◌, length, map, codes, Some, refl, sym, ap, subst, ◌∙◌, append_assoc, arith, ◌&&◌, ◌||◌}
use Rattle.std.specs.List.{take_while, AllByRecursion, flat_map}
use Rattle.std.proofs.lemmas.Bool.{eq-eqb}
use Rattle.std.proofs.lemmas.Bool.Decides.{nat_tests}
use Rattle.std.proofs.lemmas.List.{length-append, append-nil}
use Rattle.std.proofs.lemmas.List.Elements.{All-head}
use Rattle.std.proofs.lemmas.List.Concat.{flat_map-cons}
use Rattle.rb_tags.specs.Bytes.{is_space, is_name_byte, is_value_byte, is_quote, past}
use Rattle.rb_tags.specs.Marks.{name_at, opening_at, quoted_at, attr_at, is_nonempty, attr_follows, attrs_at, ending_of, start_in, end_in}
use Rattle.rb_tags.specs.Values.{piece_value}
use Rattle.rb_tags.specs.Grammar.{IsSpace, IsName, WrittenAttr, IsAttr, value_text, attr_text, attr_of, WrittenStart, IsStart, start_of, WrittenEnd, IsEnd}
use Rattle.rb_tags.proofs.Runs.{front_found, Stops, run_again, past_again}
use Rattle.rb_tags.proofs.TakesTag.{slash}
use Rattle.rb_tags.proofs.ValueLaws.{value_complete}

space_no_name : (b : ℕ) → is_space b ≡ true → is_name_byte b ≡ false
unfolding is_space is_name_byte
space_no_name b h = grind (arith, nat_tests)

name_no_space : (b : ℕ) → is_name_byte b ≡ true → is_space b ≡ false
unfolding is_space is_name_byte
name_no_space b h = grind (arith, nat_tests)

quote_no_space : (b : ℕ) → is_quote b ≡ true → is_space b ≡ false
unfolding is_space is_quote
quote_no_space b h = grind (arith, nat_tests)

-- white space ends a name
stops_space : (space rest : List ℕ) → IsSpace space → Stops is_name_byte rest → Stops is_name_byte (space ++ rest)
stops_space [] rest all stops = stops
stops_space (b ∷ space) rest all stops = space_no_name b (All-head (λ x. is_space x ≡ true) b space all)

stops_some_space : (space rest : List ℕ) → IsSpace space → space ≢ [] → Stops is_name_byte (space ++ rest)
stops_some_space [] rest all some = absurd (some refl)
stops_some_space (b ∷ space) rest all some = space_no_name b (All-head (λ x. is_space x ≡ true) b space all)

-- a name ends white space
stops_name : (name rest : List ℕ) → IsName name → Stops is_space (name ++ rest)
stops_name [] rest h = absurd (let e = h.begins in cc)
stops_name (b ∷ name) rest h = name_no_space b (All-head (λ x. is_name_byte x ≡ true) b name h.of_name_bytes)

equals_stops : (rest : List ℕ) → Stops is_name_byte (61 ∷ rest) × Stops is_space (61 ∷ rest)
unfolding is_name_byte is_space
equals_stops rest = (refl, refl)

value_stops : (quote : ℕ) (rest : List ℕ) → Stops (is_value_byte quote) (quote ∷ rest)
unfolding is_value_byte
value_stops quote rest = rw (eq-eqb quote quote refl) refl

name_again : (name rest : List ℕ) → IsName name → Stops is_name_byte rest → name_at (name ++ rest) ≡ Some (name, rest)
unfolding name_at
name_again name rest h stops = rw (run_again is_name_byte name rest h.of_name_bytes stops, h.begins, past_again is_name_byte name rest h.of_name_bytes stops) refl

-- a value in quotes
quoted : WrittenAttr → List ℕ → List ℕ
quoted a rest = a.quote ∷ (value_text a ++ a.quote ∷ rest)

opening_again : (quote : ℕ) (rest : List ℕ) → is_quote quote ≡ true → opening_at (quote ∷ rest) ≡ Some (quote, rest)
unfolding opening_at
opening_again quote rest h = rw h refl

quoted_again : (a : WrittenAttr) (rest : List ℕ) → IsAttr a → quoted_at (quoted a rest) ≡ Some (flat_map piece_value a.pieces, rest)
unfolding quoted_at quoted
quoted_again a rest h =
    let says = value_complete (value_text a) (flat_map piece_value a.pieces) (record { pieces = a.pieces; are_pieces = h.pieces; text_is = refl; value_is = refl }) in
    rw (
      opening_again a.quote (value_text a ++ a.quote ∷ rest) h.quote,
      past_again (is_value_byte a.quote) (value_text a) (a.quote ∷ rest) h.value (value_stops a.quote rest),
      front_found (a.quote ∷ []) rest,
      run_again (is_value_byte a.quote) (value_text a) (a.quote ∷ rest) h.value (value_stops a.quote rest),
      says,
    ) refl

quoted_stops : (a : WrittenAttr) (rest : List ℕ) → IsAttr a → Stops is_space (quoted a rest)
unfolding quoted
quoted_stops a rest h = quote_no_space a.quote h.quote

-- an attribute from after the white space before it
body : WrittenAttr → List ℕ → List ℕ
body a rest = a.name ++ (a.left ++ 61 ∷ (a.right ++ quoted a rest))

attr_again : (a : WrittenAttr) (rest : List ℕ) → IsAttr a → attr_at (body a rest) ≡ Some (attr_of a, rest)
unfolding attr_at body
attr_again a rest h =
    let valued = a.right ++ quoted a rest in
    rw (
      name_again a.name (a.left ++ 61 ∷ valued) h.name (stops_space a.left (61 ∷ valued) h.left (equals_stops valued).0),
      past_again is_space a.left (61 ∷ valued) h.left (equals_stops valued).1,
      front_found (codes "=") valued,
      past_again is_space a.right (quoted a rest) h.right (quoted_stops a rest h),
      quoted_again a rest h,
    ) refl

attr_cut : (a : WrittenAttr) (rest : List ℕ) → attr_text a ++ rest ≡ a.before ++ body a rest
unfolding body quoted
attr_cut a rest = simp append_assoc

some_is : (bytes : List ℕ) → bytes ≢ [] → is_nonempty bytes ≡ true
some_is [] some = absurd (some refl)
some_is (b ∷ bs) some = refl

name_some : (name : List ℕ) → IsName name → name ≢ []
name_some [] h e = let begins = h.begins in cc
name_some (b ∷ name) h e = cc

attr_is_next : (a : WrittenAttr) (rest : List ℕ) → IsAttr a → (attr_follows (attr_text a ++ rest) ≡ true) × (past is_space (attr_text a ++ rest) ≡ body a rest)
unfolding attr_follows body
attr_is_next a rest h =
    let valued = a.right ++ quoted a rest in
    let whole = a.name ++ (a.left ++ 61 ∷ valued) in
    let stops = stops_name a.name (a.left ++ 61 ∷ valued) h.name in
    let past_it = past_again is_space a.before whole h.before stops in
    let follows : attr_follows (a.before ++ whole) ≡ true = rw (run_again is_space a.before whole h.before stops, past_it, run_again is_name_byte a.name (a.left ++ 61 ∷ valued) h.name.of_name_bytes (stops_space a.left (61 ∷ valued) h.left (equals_stops valued).0), some_is a.before h.apart, some_is a.name (name_some a.name h.name)) refl in
    (ap attr_follows (attr_cut a rest) ∙ follows, ap (past is_space) (attr_cut a rest) ∙ past_it)

attrs_again : (n : ℕ) (attrs : List WrittenAttr) (rest : List ℕ) → AllByRecursion IsAttr attrs → length attrs ≤ n → attr_follows rest ≡ false → attrs_at n (flat_map attr_text attrs ++ rest) ≡ Some (map attr_of attrs, rest)
unfolding attrs_at
attrs_again zero [] rest all enough ends = refl
attrs_again zero (a ∷ attrs) rest all enough ends = absurd (omega arith)
attrs_again (suc n) [] rest all enough ends = rw ends refl
attrs_again (suc n) (a ∷ attrs) rest all enough ends =
    let others = flat_map attr_text attrs ++ rest in
    let cut : flat_map attr_text (a ∷ attrs) ++ rest ≡ attr_text a ++ others = ap (λ (t : List ℕ). t ++ rest) (flat_map-cons attr_text a attrs) ∙ append_assoc (attr_text a) (flat_map attr_text attrs) rest in
    let next = attr_is_next a others all.0 in
    ap (attrs_at (suc n)) cut ∙ rw (next.0, next.1, attr_again a others all.0, attrs_again n attrs rest all.1 (omega arith) ends) refl

ending_again : (closes : Bool) → ending_of (slash closes) ≡ Some closes
unfolding ending_of
ending_again true = refl
ending_again false = refl

slash_stops : (closes : Bool) → Stops is_name_byte (slash closes) × Stops is_space (slash closes)
unfolding is_name_byte is_space
slash_stops true = (refl, refl)
slash_stops false = (tt, tt)

-- no attribute follows at the end of a start tag
no_attr : (after rest : List ℕ) → IsSpace after → Stops is_name_byte rest → Stops is_space rest → attr_follows (after ++ rest) ≡ false
unfolding attr_follows
no_attr after rest h no_name no_space =
    rw (past_again is_space after rest h no_space, run_again is_name_byte [] rest (λ i d lt. absurd (omega arith)) no_name) (and_false (is_nonempty (take_while is_space (after ++ rest))))
  where
    and_false : (b : Bool) → (b && false) ≡ false
    and_false true = refl
    and_false false = refl

attrs_stop : (attrs : List WrittenAttr) (rest : List ℕ) → AllByRecursion IsAttr attrs → Stops is_name_byte rest → Stops is_name_byte (flat_map attr_text attrs ++ rest)
attrs_stop [] rest all stops = stops
attrs_stop (a ∷ attrs) rest all stops =
    let others = flat_map attr_text attrs ++ rest in
    let cut : flat_map attr_text (a ∷ attrs) ++ rest ≡ a.before ++ body a others = ap (λ (t : List ℕ). t ++ rest) (flat_map-cons attr_text a attrs) ∙ append_assoc (attr_text a) (flat_map attr_text attrs) rest ∙ attr_cut a others in
    subst (λ (t : List ℕ). Stops is_name_byte t) (sym cut) (stops_some_space a.before (body a others) all.0.before all.0.apart)

attrs_fewer : (attrs : List WrittenAttr) → length attrs ≤ length (flat_map attr_text attrs)
attrs_fewer [] = omega arith
attrs_fewer (a ∷ attrs) =
    let more : length (flat_map attr_text (a ∷ attrs)) ≡ length (attr_text a) + length (flat_map attr_text attrs) = ap length (flat_map-cons attr_text a attrs) ∙ length-append (attr_text a) (flat_map attr_text attrs) in
    let some : 0 < length (attr_text a) = simp length-append (omega arith) in
    omega (arith, attrs_fewer attrs)

-- all that stands between the < and the > of a start tag
unfoldable pub start_inside : WrittenStart → List ℕ
start_inside s = s.name ++ (flat_map attr_text s.attrs ++ (s.after ++ slash s.closes))

pub start_again : (s : WrittenStart) → IsStart s → start_in (start_inside s) ≡ Some (start_of s)
unfolding start_in start_inside
start_again s h =
    let tail = s.after ++ slash s.closes in
    let text = flat_map attr_text s.attrs in
    let stops = slash_stops s.closes in
    let fewer : length s.attrs ≤ length (text ++ tail) = omega (arith, attrs_fewer s.attrs, length-append text tail) in
    rw (
      name_again s.name (text ++ tail) h.name (attrs_stop s.attrs tail h.attrs (stops_space s.after (slash s.closes) h.after stops.0)),
      attrs_again (length (text ++ tail)) s.attrs tail h.attrs fewer (no_attr s.after (slash s.closes) h.after stops.0 stops.1),
      past_again is_space s.after (slash s.closes) h.after stops.1,
      ending_again s.closes,
    ) refl

-- the name of an end tag and the white space after it
pub end_again : (e : WrittenEnd) → IsEnd e → end_in (e.name ++ e.after) ≡ Some e.name
unfolding end_in
end_again e h =
    let whole : e.name ++ e.after ≡ e.name ++ (e.after ++ []) = ap (λ (t : List ℕ). e.name ++ t) (sym (append-nil e.after)) in
    ap end_in whole
    ∙ rw (
      name_again e.name (e.after ++ []) h.name (stops_space e.after [] h.after tt),
      past_again is_space e.after [] h.after tt,
    ) refl

-- what a name begins with
pub record NameFirst (name : List ℕ) : Type 0 where
  pub first : ℕ
  pub others : List ℕ
  pub text : name ≡ first ∷ others
  pub no_mark : eqb first 33 ≡ false
  pub no_question : eqb first 63 ≡ false
  pub no_slash : eqb first 47 ≡ false

name_no_slash : (b : ℕ) → is_name_byte b ≡ true → eqb b 47 ≡ false
unfolding is_name_byte
name_no_slash b e = grind (arith, nat_tests)

neither : (b c : Bool) → not (b || c) ≡ true → (b ≡ false) × (c ≡ false)
neither true c e = absurd cc
neither false true e = absurd cc
neither false false e = (refl, refl)

pub name_first : (name : List ℕ) → IsName name → NameFirst name
name_first [] h = absurd (name_some [] h refl)
name_first (b ∷ bs) h =
    let first = neither (eqb b 33) (eqb b 63) h.begins in
    record { first = b; others = bs; text = refl; no_mark = first.0; no_question = first.1; no_slash = name_no_slash b (All-head (λ x. is_name_byte x ≡ true) b bs h.of_name_bytes) }
