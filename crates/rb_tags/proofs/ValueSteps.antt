-- Reading a value from the front, one reference after another.
use Rattle.std.proofs.Common.{◌≡◌, ℕ, zero, suc, ◌+◌, ◌<◌, ◌≤◌, Bool, true, false, not, List, [], ◌∷◌, ◌++◌, length, drop, get_or, Option, Some, None, IsSome, MatchOption, lit<, refl, sym, ap, subst, ◌∙◌, arith, append_assoc, ◌==◌}
use Rattle.std.specs.List.{take_while, position_or_len, before_first, after_first}
use Rattle.std.specs.Option.{option_map, is_some}
use Rattle.std.specs.Char.{encode_utf8}
use denote.Ref.{Bor}
use Rattle.std.proofs.lemmas.Str.Pattern.{IsSplitOnceResult, split_once_first}
use Rattle.std.proofs.lemmas.List.{length-append}
use Rattle.std.proofs.lemmas.Bool.{eqb-true}
use Rattle.std.proofs.Math.Seq.{drop-length, drop-cons}
use Rattle.std.proofs.lemmas.List.Sums.{prefix_len_stops}
use Rattle.rb_tags.specs.Bytes.{is_plain_byte, is_reference_byte, past, after_front, if_more}
use Rattle.rb_tags.specs.References.{◌>?=◌, reference_of, reference_at, value_within, value_of}
use Rattle.rb_tags.proofs.Steps.{bind_some, run_split, front_of_one}

-- a reference as it is read, from after its &
pub record TakesReference (bytes : List ℕ) (read : List ℕ × List ℕ) : Type 0 where
  pub parts : bytes ≡ take_while is_reference_byte bytes ++ 59 ∷ read.1
  pub says : reference_of (take_while is_reference_byte bytes) ≡ Some read.0

pub reference_takes : (bytes : List ℕ) (read : List ℕ × List ℕ) → reference_at bytes ≡ Some read → TakesReference bytes read
unfolding reference_at
reference_takes bytes read e =
    let rest = bind_some (after_front (59 ∷ []) (past is_reference_byte bytes)) (λ rest. reference_of (take_while is_reference_byte bytes) >?= λ value. Some (value, rest)) read e in
    let value = bind_some (reference_of (take_while is_reference_byte bytes)) (λ value. Some (value, rest.0)) read rest.2 in
    let same : (value.0, rest.0) ≡ read = cc value.2 in
    subst (λ (x : List ℕ × List ℕ). TakesReference bytes x) same (record {
      parts = run_split is_reference_byte bytes ∙ ap (λ (t : List ℕ). take_while is_reference_byte bytes ++ t) (front_of_one 59 _ _ rest.1);
      says = value.1;
    })

pub reference_shortens : (bytes : List ℕ) (read : List ℕ × List ℕ) → reference_at bytes ≡ Some read → length read.1 < length bytes
reference_shortens bytes read e = let takes = reference_takes bytes read e in omega (arith, simp length-append at (ap length takes.parts))

-- what a text says does not depend on how many references it may have, where it has fewer
abbrev pub more_of : List ℕ → (List ℕ → Option (List ℕ)) → List ℕ → Option (List ℕ)
more_of plain others bytes = reference_at bytes >?= λ read. others read.1 >?= λ value. Some (plain ++ (read.0 ++ value))

same_more : (plain : List ℕ) (f g : List ℕ → Option (List ℕ)) (bytes : List ℕ) → ((rest : List ℕ) → length rest < length bytes → f rest ≡ g rest) → more_of plain f bytes ≡ more_of plain g bytes
same_more plain f g bytes same = by_read (reference_at bytes) refl
  where
    by_read : (o : Option (List ℕ × List ℕ)) → reference_at bytes ≡ o → (o >?= λ read. f read.1 >?= λ value. Some (plain ++ (read.0 ++ value))) ≡ (o >?= λ read. g read.1 >?= λ value. Some (plain ++ (read.0 ++ value)))
    by_read None e = refl
    by_read (Some read) e = ap (λ (o : Option (List ℕ)). o >?= λ value. Some (plain ++ (read.0 ++ value))) (same read.1 (reference_shortens bytes read e))

same_if_more : (text bytes : List ℕ) (f g : List ℕ → Option (List ℕ)) → length bytes ≤ length text → ((rest : List ℕ) → length rest < length text → f rest ≡ g rest) → (plain : List ℕ) → if_more bytes (Some text) (more_of plain f) ≡ if_more bytes (Some text) (more_of plain g)
same_if_more text [] f g short same plain = refl
same_if_more text (b ∷ bs) f g short same plain = same_more plain f g bs (λ rest lt. same rest (omega arith))

past_short : (text : List ℕ) → length (past is_plain_byte text) ≤ length text
past_short text = omega (arith, simp length-append at (ap length (run_split is_plain_byte text)))

value_enough : (m n : ℕ) (text : List ℕ) → length text < m → length text < n → value_within m text ≡ value_within n text
unfolding value_within
value_enough zero n text lm ln = absurd (omega arith)
value_enough (suc m) zero text lm ln = absurd (omega arith)
value_enough (suc m) (suc n) text lm ln = same_if_more text (past is_plain_byte text) (value_within m) (value_within n) (past_short text) (λ rest lt. value_enough m n rest (omega arith) (omega arith)) (take_while is_plain_byte text)

-- one step of reading
pub value_step : (text : List ℕ) → value_of text ≡ if_more (past is_plain_byte text) (Some text) (more_of (take_while is_plain_byte text) value_of)
unfolding value_of value_within
value_step text = same_if_more text (past is_plain_byte text) (value_within (length text)) value_of (past_short text) (λ rest lt. value_enough (length text) (suc (length rest)) rest lt (omega arith)) (take_while is_plain_byte text)

abbrev is_ampersand : ℕ → Bool
is_ampersand b = b == 38

plain_past : (text : List ℕ) → position_or_len is_ampersand text ≡ length text → past is_plain_byte text ≡ []
unfolding past is_plain_byte
plain_past text e = rw e (drop-length text)

reference_past : (text : List ℕ) → position_or_len is_ampersand text < length text → past is_plain_byte text ≡ 38 ∷ after_first is_ampersand text
unfolding past is_plain_byte
reference_past text lt =
    let stops = prefix_len_stops (λ b. not (is_ampersand b)) text 0 lt in
    let is : get_or text (position_or_len is_ampersand text) 0 ≡ 38 = eqb-true _ 38 (not_false _ stops) in
    let at = drop-cons text (position_or_len is_ampersand text) 0 lt in
    let next : position_or_len is_ampersand text + 1 ≡ suc (position_or_len is_ampersand text) = omega arith in
    rw next (at ∙ ap (λ (b : ℕ). b ∷ drop (suc (position_or_len is_ampersand text)) text) is)
  where
    not_false : (t : Bool) → not t ≡ false → t ≡ true
    not_false true e = refl
    not_false false e = absurd cc

plain_front : (text : List ℕ) → before_first is_ampersand text ≡ take_while is_plain_byte text
unfolding is_plain_byte
plain_front text = refl

-- what `split_once` gives at &
pub splits_reference : (text : List ℕ) (r : Option (Bor (List ℕ) × Bor (List ℕ))) → IsSplitOnceResult 38 text r → MatchOption r (past is_plain_byte text ≡ []) (λ x. (x.0.now ≡ take_while is_plain_byte text) × (past is_plain_byte text ≡ 38 ∷ x.1.now))
splits_reference text None h = plain_past text (split_once_first 38 text None h (lit< tt))
splits_reference text (Some x) h = let at = split_once_first 38 text (Some x) h (lit< tt) in (at.1 ∙ plain_front text, reference_past text at.0 ∙ ap (λ (t : List ℕ). 38 ∷ t) (sym at.2))

-- what is read so far, of all that a text says
pub record SaysSoFar (text said rest : List ℕ) : Type 0 where
  pub says : value_of text ≡ (value_of rest >?= λ others. Some (said ++ others))

pub says_begin : (text : List ℕ) → SaysSoFar text [] text
says_begin text = record { says = by_value (value_of text) }
  where
    by_value : (o : Option (List ℕ)) → o ≡ (o >?= λ others. Some ([] ++ others))
    by_value (Some value) = refl
    by_value None = refl

regroup : (said plain character value : List ℕ) → said ++ (plain ++ (character ++ value)) ≡ ((said ++ plain) ++ character) ++ value
regroup said plain character value = simp append_assoc

pub says_more : (text said rest behind character after : List ℕ) → SaysSoFar text said rest → past is_plain_byte rest ≡ 38 ∷ behind → reference_at behind ≡ Some (character, after) → SaysSoFar text ((said ++ take_while is_plain_byte rest) ++ character) after
says_more text said rest behind character after so_far past_is read =
    let step = rw (past_is, read) at (value_step rest) in
    let whole = rw step at so_far.says in
    record { says = whole ∙ by_value (take_while is_plain_byte rest) (value_of after) }
  where
    by_value : (plain : List ℕ) (o : Option (List ℕ)) → ((o >?= λ value. Some (plain ++ (character ++ value))) >?= λ others. Some (said ++ others)) ≡ (o >?= λ others. Some (((said ++ plain) ++ character) ++ others))
    by_value plain (Some value) = ap (λ (v : List ℕ). Some v) (regroup said plain character value)
    by_value plain None = refl

pub says_refused : (text said rest behind : List ℕ) → SaysSoFar text said rest → past is_plain_byte rest ≡ 38 ∷ behind → reference_at behind ≡ None → value_of text ≡ None
says_refused text said rest behind so_far past_is refused = let step = rw (past_is, refused) at (value_step rest) in rw step at so_far.says

pub says_end : (text said rest : List ℕ) → SaysSoFar text said rest → past is_plain_byte rest ≡ [] → value_of text ≡ Some (said ++ rest)
says_end text said rest so_far past_is = let step = rw past_is at (value_step rest) in rw step at so_far.says

-- what the steps of the loop say of a value
pub reads_shorter : (rest behind : List ℕ) (read : List ℕ × List ℕ) → past is_plain_byte rest ≡ 38 ∷ behind → reference_at behind ≡ Some read → length read.1 < length rest
reads_shorter rest behind read past_is e = omega (arith, past_short rest, ap length past_is, reference_shortens behind read e)

pub reads_reference : (r : Option (ℕ × Bor (List ℕ))) (bytes : List ℕ) (character : ℕ) (after : Bor (List ℕ)) → option_map (λ x. (encode_utf8 x.0, x.1.now)) r ≡ reference_at bytes → r ≡ Some (character, after) → reference_at bytes ≡ Some (encode_utf8 character, after.now)
reads_reference r bytes character after e is = sym e ∙ ap (λ (o : Option (ℕ × Bor (List ℕ))). option_map (λ x. (encode_utf8 x.0, x.1.now)) o) is

pub reads_none : (r : Option (ℕ × Bor (List ℕ))) (bytes : List ℕ) → option_map (λ x. (encode_utf8 x.0, x.1.now)) r ≡ reference_at bytes → r ≡ None → reference_at bytes ≡ None
reads_none r bytes e is = sym e ∙ ap (λ (o : Option (ℕ × Bor (List ℕ))). option_map (λ x. (encode_utf8 x.0, x.1.now)) o) is

-- a text with a value has no & that begins no reference
pub reads_some : (r : Option (ℕ × Bor (List ℕ))) (text said rest behind : List ℕ) → IsSome (value_of text) → SaysSoFar text said rest → past is_plain_byte rest ≡ 38 ∷ behind → option_map (λ x. (encode_utf8 x.0, x.1.now)) r ≡ reference_at behind → IsSome r
reads_some (Some x) text said rest behind some so_far past_is e = refl
reads_some None text said rest behind some so_far past_is e = rw (says_refused text said rest behind so_far past_is (sym e)) at some

-- each & up to the rest begins a reference
pub record HasReferences (text rest : List ℕ) : Type 0 where
  pub said : List ℕ
  pub says : SaysSoFar text said rest

pub references_begin : (text : List ℕ) → HasReferences text text
references_begin text = record { said = []; says = says_begin text }

pub references_more : (text rest behind character after : List ℕ) → HasReferences text rest → past is_plain_byte rest ≡ 38 ∷ behind → reference_at behind ≡ Some (character, after) → HasReferences text after
references_more text rest behind character after h past_is read = record { said = _; says = says_more text h.said rest behind character after h.says past_is read }

pub references_refused : (text rest behind : List ℕ) → HasReferences text rest → past is_plain_byte rest ≡ 38 ∷ behind → reference_at behind ≡ None → false ≡ is_some (value_of text)
references_refused text rest behind h past_is none = rw (says_refused text h.said rest behind h.says past_is none) refl

pub references_end : (text rest : List ℕ) → HasReferences text rest → past is_plain_byte rest ≡ [] → true ≡ is_some (value_of text)
references_end text rest h past_is = rw (says_end text h.said rest h.says past_is) refl
