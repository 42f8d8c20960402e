-- The decimal that is read is the one that a text is written as, and there is no other.
use Rattle.std.proofs.Common.{◌≡◌, ◌⊎◌, inl, inr, ⊎_elim, ℕ, ◌+◌, ◌<◌, ◌≤◌, Bool, true, false, ◌||◌, not, cond, eqb, leb, ltb, List, [], ◌∷◌, ◌++◌, length, Option, Some, None, refl, sym, ap, ◌∙◌, subst, arith, append_assoc}
use Rattle.std.specs.List.{list_all, AllPass}
use Rattle.std.specs.Char.{is_ascii_digit}
use Rattle.std.proofs.lemmas.Bool.{and_parts, leb-true, ltb-true, lt-ltb, eqb-true, ne_eqb, le-leb, lt-leb}
use Rattle.std.proofs.lemmas.List.{append-nil}
use Rattle.std.proofs.lemmas.List.Sums.{list_all-from_AllPass, AllPass-from_list_all}
use Rattle.rb_text.specs.Decimal.{Decimal, IsPlainDecimal, IsDecimal, IsSign, IsPoint, IsExponent, IsWrittenExponent, IsNoExponent, Exponent, no_exponent, Start, is_blank, is_empty, span_of, sign_of, part_of, scale_of, exponent_of, start_of, ended, decimal_of, lower_of, upper_of}
use Rattle.rb_text.proofs.Spans.{span_joined, span_passes, stops, span_is}
use Rattle.rb_text.proofs.Digits.{digit_is}

-- ---- what is read is written so
record Signed (text : List ℕ) (r : Bool × List ℕ) : Type 0 where
  pub sign : List ℕ
  pub joined : text ≡ sign ++ r.1
  pub is : IsSign sign r.0

minus_first : (byte : ℕ) (bytes : List ℕ) → byte ≡ 45 → Signed (byte ∷ bytes) (true, bytes)
minus_first byte bytes e = record { sign = 45 ∷ []; joined = ap (λ (x : ℕ). x ∷ bytes) e; is = refl }

plus_first : (byte : ℕ) (bytes : List ℕ) → byte ≡ 43 → Signed (byte ∷ bytes) (false, bytes)
plus_first byte bytes e = record { sign = 43 ∷ []; joined = ap (λ (x : ℕ). x ∷ bytes) e; is = inl refl }

no_sign : (text : List ℕ) → Signed text (false, text)
no_sign text = record { sign = []; joined = refl; is = inr refl }

signed_at : (text : List ℕ) → Signed text (sign_of text)
unfolding sign_of
signed_at [] = no_sign []
signed_at (byte ∷ bytes) =
    elim (eqb byte 45) as (λ b. eqb byte 45 ≡ b → Signed (byte ∷ bytes) (cond b (true, bytes) (cond (eqb byte 43) (false, bytes) (false, byte ∷ bytes)))) [
      | true ↦ λ e. minus_first byte bytes (eqb-true byte 45 e)
      | false ↦ λ e. elim (eqb byte 43) as (λ b. eqb byte 43 ≡ b → Signed (byte ∷ bytes) (cond b (false, bytes) (false, byte ∷ bytes))) [
        | true ↦ λ f. plus_first byte bytes (eqb-true byte 43 f)
        | false ↦ λ f. no_sign (byte ∷ bytes)
      ] refl
    ] refl

record Pointed (text : List ℕ) (r : List ℕ × List ℕ) : Type 0 where
  pub point : List ℕ
  pub joined : text ≡ point ++ (r.0 ++ r.1)
  pub is : IsPoint point r.0
  pub digits : AllPass is_ascii_digit r.0

point_first : (byte : ℕ) (bytes : List ℕ) → byte ≡ 46 → Pointed (byte ∷ bytes) (span_of is_ascii_digit bytes)
point_first byte bytes e = record {
  point = 46 ∷ [];
  joined = ap (λ (x : ℕ). x ∷ bytes) e ∙ ap (λ (xs : List ℕ). 46 ∷ xs) (span_joined is_ascii_digit bytes);
  is = inl refl;
  digits = span_passes is_ascii_digit bytes;
}

no_point : (text : List ℕ) → Pointed text ([], text)
no_point text = record { point = []; joined = refl; is = inr (refl, refl); digits = AllPass-from_list_all is_ascii_digit [] refl }

pointed : (text : List ℕ) → Pointed text (part_of text)
unfolding part_of
pointed [] = no_point []
pointed (byte ∷ bytes) =
    elim (eqb byte 46) as (λ b. eqb byte 46 ≡ b → Pointed (byte ∷ bytes) (cond b (span_of is_ascii_digit bytes) ([], byte ∷ bytes))) [
      | true ↦ λ e. point_first byte bytes (eqb-true byte 46 e)
      | false ↦ λ e. no_point (byte ∷ bytes)
    ] refl

-- an exponent at the start of a text
record Scaled (text : List ℕ) (e : Exponent) : Type 0 where
  pub exponent : List ℕ
  pub joined : text ≡ exponent ++ e.rest
  pub is : IsExponent exponent e.down e.digits

not_scaled : (text : List ℕ) → Scaled text (no_exponent text)
not_scaled text = record { exponent = []; joined = refl; is = inr (record { text_is = refl; down_is = refl; digits_are = refl }) }

scale_joined : (letter sign digits rest behind text : List ℕ) → text ≡ letter ++ behind → behind ≡ sign ++ (digits ++ rest) → text ≡ (letter ++ (sign ++ digits)) ++ rest
scale_joined letter sign digits rest behind text e f = simp append_assoc (e ∙ ap (λ (x : List ℕ). letter ++ x) f)

scaled_letter : (letter behind text : List ℕ) → text ≡ letter ++ behind → (letter ≡ 101 ∷ []) ⊎ (letter ≡ 69 ∷ []) → Scaled text (scale_of text behind)
unfolding scale_of
scaled_letter letter behind text e is =
    let signed = sign_of behind in
    let digits = span_of is_ascii_digit signed.1 in
    let s = signed_at behind in
    elim (ltb 0 (length digits.0)) as (λ b. ltb 0 (length digits.0) ≡ b → Scaled text (cond b (record { down = signed.0; digits = digits.0; rest = digits.1 }) (no_exponent text))) [
      | true ↦ λ some. record {
        exponent = letter ++ (s.sign ++ digits.0);
        joined = scale_joined letter s.sign digits.0 digits.1 behind text e (s.joined ∙ ap (λ (x : List ℕ). s.sign ++ x) (span_joined is_ascii_digit signed.1));
        is = inl (record {
          letter = letter;
          sign = s.sign;
          text_is = refl;
          letter_is = is;
          sign_is = s.is;
          all_digits = span_passes is_ascii_digit signed.1;
          some_digit = ltb-true 0 _ some;
        });
      }
      | false ↦ λ none. not_scaled text
    ] refl

letter_is : (byte : ℕ) → (eqb byte 101 || eqb byte 69) ≡ true → (byte ≡ 101) ⊎ (byte ≡ 69)
letter_is byte h =
    elim (eqb byte 101) as (λ b. eqb byte 101 ≡ b → (b || eqb byte 69) ≡ true → (byte ≡ 101) ⊎ (byte ≡ 69)) [
      | true ↦ λ e k. inl (eqb-true byte 101 e)
      | false ↦ λ e k. inr (eqb-true byte 69 k)
    ] refl h

letter_text : (byte : ℕ) → (byte ≡ 101) ⊎ (byte ≡ 69) → (◌≡◌ {A = List ℕ} (byte ∷ []) (101 ∷ [])) ⊎ (◌≡◌ {A = List ℕ} (byte ∷ []) (69 ∷ []))
letter_text byte h = ⊎_elim {C = (◌≡◌ {A = List ℕ} (byte ∷ []) (101 ∷ [])) ⊎ (◌≡◌ {A = List ℕ} (byte ∷ []) (69 ∷ []))}
    (λ (e : byte ≡ 101). inl (ap (λ (x : ℕ). x ∷ []) e)) (λ (e : byte ≡ 69). inr (ap (λ (x : ℕ). x ∷ []) e)) h

scaled : (text : List ℕ) → Scaled text (exponent_of text)
unfolding exponent_of
scaled [] = not_scaled []
scaled (byte ∷ bytes) =
    elim (eqb byte 101 || eqb byte 69) as (λ b. (eqb byte 101 || eqb byte 69) ≡ b → Scaled (byte ∷ bytes) (cond b (scale_of (byte ∷ bytes) bytes) (no_exponent (byte ∷ bytes)))) [
      | true ↦ λ e. scaled_letter (byte ∷ []) bytes (byte ∷ bytes) refl (letter_text byte (letter_is byte e))
      | false ↦ λ e. not_scaled (byte ∷ bytes)
    ] refl

-- a decimal at the start of a text
pub record Started (text : List ℕ) (s : Start) : Type 0 where
  pub plain : List ℕ
  pub joined : text ≡ plain ++ s.rest
  pub is : IsPlainDecimal plain s.decimal

start_joined : (text t u v sign whole point part exponent rest : List ℕ) → text ≡ sign ++ t → t ≡ whole ++ u → u ≡ point ++ (part ++ v) → v ≡ exponent ++ rest
    → text ≡ (sign ++ (whole ++ (point ++ (part ++ exponent)))) ++ rest
start_joined text t u v sign whole point part exponent rest a b c d =
    simp append_assoc (a ∙ ap (λ (x : List ℕ). sign ++ x) (b ∙ ap (λ (x : List ℕ). whole ++ x) (c ∙ ap (λ (x : List ℕ). point ++ (part ++ x)) d)))

-- the start where the test passes
tested : (b : Bool) (s r : Start) → cond b (Some s) None ≡ Some r → (b ≡ true) × (s ≡ r)
tested true s r h = (refl, cc)
tested false s r h = absurd (cc)

pub start_is : (text : List ℕ) (s : Start) → start_of text ≡ Some s → Started text s
unfolding start_of
start_is text s h =
    let sign = sign_of text in
    let whole = span_of is_ascii_digit sign.1 in
    let part = part_of whole.1 in
    let exponent = exponent_of part.1 in
    let t = tested (ltb 0 (length whole.0 + length part.0)) (record { decimal = record { negative = sign.0; whole = whole.0; part = part.0; down = exponent.down; exponent = exponent.digits }; rest = exponent.rest }) s h in
    let a = signed_at text in
    let p = pointed whole.1 in
    let e = scaled part.1 in
    subst (Started text) t.1 (record {
      plain = a.sign ++ (whole.0 ++ (p.point ++ (part.0 ++ e.exponent)));
      joined = start_joined text sign.1 whole.1 part.1 a.sign whole.0 p.point part.0 e.exponent exponent.rest a.joined (span_joined is_ascii_digit sign.1) p.joined e.joined;
      is = record {
        sign = a.sign;
        point = p.point;
        exponent = e.exponent;
        text_is = refl;
        sign_is = a.is;
        whole_digits = span_passes is_ascii_digit sign.1;
        point_is = p.is;
        part_digits = p.digits;
        exponent_is = e.is;
        some_digit = ltb-true 0 _ t.0;
      };
    })

-- the decimal, and what is behind it, where that passes
pub record Ended (test : List ℕ → Bool) (text : List ℕ) (d : Decimal) : Type 0 where
  pub plain : List ℕ
  pub rest : List ℕ
  pub joined : text ≡ plain ++ rest
  pub passes : test rest ≡ true
  pub is : IsPlainDecimal plain d

ended_start : (test : List ℕ → Bool) (text : List ℕ) (s : Start) (d : Decimal) (b : Bool) → Started text s → (b ≡ true → test s.rest ≡ true) → cond b (Some s.decimal) None ≡ Some d → Ended test text d
ended_start test text s d true h k e =
    let same : s.decimal ≡ d = cc in
    record { plain = h.plain; rest = s.rest; joined = h.joined; passes = k refl; is = subst (IsPlainDecimal h.plain) same h.is }
ended_start test text s d false h k e = absurd (cc)

ended_is : (test : List ℕ → Bool) (text : List ℕ) (d : Decimal) (o : Option Start) → start_of text ≡ o → ended test o ≡ Some d → Ended test text d
ended_is test text d None e h = absurd (cc)
ended_is test text d (Some s) e h = ended_start test text s d (test s.rest) (start_is text s e) (λ k. k) h

before_plain : (text before s plain rest : List ℕ) → text ≡ before ++ s → s ≡ plain ++ rest → text ≡ before ++ (plain ++ rest)
before_plain text before s plain rest e f = e ∙ ap (λ (x : List ℕ). before ++ x) f

pub decimal_is : (text : List ℕ) (d : Decimal) → decimal_of text ≡ Some d → IsDecimal text d
unfolding decimal_of
decimal_is text d h =
    let blanks = span_of is_blank text in
    let e = ended_is (list_all is_blank) blanks.1 d (start_of blanks.1) refl h in
    record {
      before = blanks.0;
      plain = e.plain;
      after = e.rest;
      text_is = before_plain text blanks.0 blanks.1 e.plain e.rest (span_joined is_blank text) e.joined;
      before_blank = span_passes is_blank text;
      plain_is = e.is;
      after_blank = AllPass-from_list_all is_blank e.rest e.passes;
    }

-- a decimal with blanks before it
pub record IsLower (text : List ℕ) (d : Decimal) : Type 0 where
  pub before : List ℕ
  pub plain : List ℕ
  pub text_is : text ≡ before ++ plain
  pub before_blank : AllPass is_blank before
  pub plain_is : IsPlainDecimal plain d

empty_is : (text : List ℕ) → is_empty text ≡ true → text ≡ []
empty_is [] h = refl
empty_is (byte ∷ bytes) h = let none = eqb-true _ 0 h in absurd (omega arith)

pub lower_is : (text : List ℕ) (d : Decimal) → lower_of text ≡ Some d → IsLower text d
unfolding lower_of
lower_is text d h =
    let blanks = span_of is_blank text in
    let e = ended_is is_empty blanks.1 d (start_of blanks.1) refl h in
    record {
      before = blanks.0;
      plain = e.plain;
      text_is = before_plain text blanks.0 blanks.1 e.plain e.rest (span_joined is_blank text) e.joined ∙ ap (λ (x : List ℕ). blanks.0 ++ (e.plain ++ x)) (empty_is e.rest e.passes) ∙ ap (λ (x : List ℕ). blanks.0 ++ x) (append-nil e.plain);
      before_blank = span_passes is_blank text;
      plain_is = e.is;
    }

-- a decimal with blanks behind it
pub record IsUpper (text : List ℕ) (d : Decimal) : Type 0 where
  pub plain : List ℕ
  pub after : List ℕ
  pub text_is : text ≡ plain ++ after
  pub plain_is : IsPlainDecimal plain d
  pub after_blank : AllPass is_blank after

pub upper_is : (text : List ℕ) (d : Decimal) → upper_of text ≡ Some d → IsUpper text d
unfolding upper_of
upper_is text d h =
    let e = ended_is (list_all is_blank) text d (start_of text) refl h in
    record { plain = e.plain; after = e.rest; text_is = e.joined; plain_is = e.is; after_blank = AllPass-from_list_all is_blank e.rest e.passes }

-- ---- what is written so is read
-- the first byte is a point, or what stands behind it in the table, as digits do
abbrev starts : List ℕ → Bool
starts [] = false
starts (byte ∷ bytes) = leb 46 byte

first_digit : (byte : ℕ) (bytes : List ℕ) → list_all is_ascii_digit (byte ∷ bytes) ≡ true → leb 46 byte ≡ true
first_digit byte bytes h =
    let p = and_parts (is_ascii_digit byte) (list_all is_ascii_digit bytes) h in
    let d = digit_is byte p.0 in
    le-leb 46 byte (omega (arith, d.low))

starts_number : (whole point part after : List ℕ) → list_all is_ascii_digit whole ≡ true → IsPoint point part → 0 < length whole + length part → starts (whole ++ (point ++ (part ++ after))) ≡ true
starts_number (byte ∷ bytes) point part after h k l = first_digit byte bytes h
starts_number [] point part after h k l = ⊎_elim {C = starts (point ++ (part ++ after)) ≡ true}
    (λ (e : point ≡ 46 ∷ []). ap (λ (x : List ℕ). starts (x ++ (part ++ after))) e)
    (λ (e : (point ≡ []) × (part ≡ [])). let none : length part ≡ 0 = ap length e.1 in absurd (omega arith))
    k

stops_blanks : (text : List ℕ) → starts text ≡ true → stops is_blank text ≡ true
stops_blanks [] h = refl
stops_blanks (byte ∷ bytes) h =
    let l = leb-true 46 byte h in
    let a = ne_eqb byte 32 (λ (e : byte ≡ 32). absurd (omega arith)) in
    let b = ne_eqb byte 9 (λ (e : byte ≡ 9). absurd (omega arith)) in
    rw (a, b)

no_sign_read : (text : List ℕ) → starts text ≡ true → sign_of text ≡ (false, text)
unfolding sign_of
no_sign_read [] h = absurd (cc)
no_sign_read (byte ∷ bytes) h =
    let l = leb-true 46 byte h in
    let a = ne_eqb byte 45 (λ (e : byte ≡ 45). absurd (omega arith)) in
    let b = ne_eqb byte 43 (λ (e : byte ≡ 43). absurd (omega arith)) in
    rw (a, b)

minus_read : (text : List ℕ) → sign_of (45 ∷ text) ≡ (true, text)
unfolding sign_of
minus_read text = refl

plus_read : (text : List ℕ) → sign_of (43 ∷ text) ≡ (false, text)
unfolding sign_of
plus_read text = refl

sign_read : (sign : List ℕ) (negative : Bool) (text : List ℕ) → IsSign sign negative → starts text ≡ true → sign_of (sign ++ text) ≡ (negative, text)
sign_read sign true text h k = ap (λ (x : List ℕ). sign_of (x ++ text)) h ∙ minus_read text
sign_read sign false text h k = ⊎_elim {C = sign_of (sign ++ text) ≡ (false, text)}
    (λ (e : sign ≡ 43 ∷ []). ap (λ (x : List ℕ). sign_of (x ++ text)) e ∙ plus_read text)
    (λ (e : sign ≡ []). ap (λ (x : List ℕ). sign_of (x ++ text)) e ∙ no_sign_read text k)
    h

sign_stops : (sign : List ℕ) (negative : Bool) (text : List ℕ) → IsSign sign negative → starts text ≡ true → stops is_blank (sign ++ text) ≡ true
sign_stops sign true text h k = ap (λ (x : List ℕ). stops is_blank (x ++ text)) h
sign_stops sign false text h k = ⊎_elim {C = stops is_blank (sign ++ text) ≡ true}
    (λ (e : sign ≡ 43 ∷ []). ap (λ (x : List ℕ). stops is_blank (x ++ text)) e)
    (λ (e : sign ≡ []). ap (λ (x : List ℕ). stops is_blank (x ++ text)) e ∙ stops_blanks text k)
    h

-- a blank is no digit and no point
pub blank_low : (byte : ℕ) → is_blank byte ≡ true → byte ≤ 32
blank_low byte h =
    elim (eqb byte 32) as (λ b. eqb byte 32 ≡ b → (b || eqb byte 9) ≡ true → byte ≤ 32) [
      | true ↦ λ e k. let is = eqb-true byte 32 e in omega arith
      | false ↦ λ e k. let is = eqb-true byte 9 k in omega arith
    ] refl h

-- what may stand behind the digits of a number: no digit and no point is first
abbrev is_point : ℕ → Bool
is_point byte = eqb byte 46

pub record Stops (text : List ℕ) : Type 0 where
  pub digits : stops is_ascii_digit text ≡ true
  pub point : stops is_point text ≡ true

after_stops : (after : List ℕ) → list_all is_blank after ≡ true → Stops after
after_stops [] h = record { digits = refl; point = refl }
after_stops (byte ∷ bytes) h =
    let p = and_parts (is_blank byte) (list_all is_blank bytes) h in
    let l = blank_low byte p.0 in
    record { digits = rw (lt-leb 48 byte (omega arith)) refl; point = rw (ne_eqb byte 46 (λ (e : byte ≡ 46). absurd (omega arith))) refl }

letter_stops : (letter text : List ℕ) → (letter ≡ 101 ∷ []) ⊎ (letter ≡ 69 ∷ []) → Stops (letter ++ text)
letter_stops letter text h = ⊎_elim {C = Stops (letter ++ text)}
    (λ (e : letter ≡ 101 ∷ []). subst (λ (x : List ℕ). Stops (x ++ text)) (sym e) (record { digits = refl; point = refl }))
    (λ (e : letter ≡ 69 ∷ []). subst (λ (x : List ℕ). Stops (x ++ text)) (sym e) (record { digits = refl; point = refl }))
    h

exponent_stops : (exponent after : List ℕ) (down : Bool) (digits : List ℕ) → IsExponent exponent down digits → list_all is_blank after ≡ true → Stops (exponent ++ after)
exponent_stops exponent after down digits h k = ⊎_elim {C = Stops (exponent ++ after)}
    (λ (w : IsWrittenExponent exponent down digits).
    subst Stops (sym (ap (λ (x : List ℕ). x ++ after) w.text_is ∙ append_assoc w.letter (w.sign ++ digits) after)) (letter_stops w.letter ((w.sign ++ digits) ++ after) w.letter_is))
    (λ (n : IsNoExponent exponent down digits). subst (λ (x : List ℕ). Stops (x ++ after)) (sym n.text_is) (after_stops after k))
    h

no_point_read : (text : List ℕ) → stops is_point text ≡ true → part_of text ≡ ([], text)
unfolding part_of
no_point_read [] h = refl
no_point_read (byte ∷ bytes) h =
    elim (eqb byte 46) as (λ b. not b ≡ true → cond b (span_of is_ascii_digit bytes) ([], byte ∷ bytes) ≡ ([], byte ∷ bytes)) [ true ↦ λ k. absurd (cc) | false ↦ λ k. refl ] h

point_read : (text : List ℕ) → part_of (46 ∷ text) ≡ span_of is_ascii_digit text
unfolding part_of
point_read text = refl

pair_at : {x y : List ℕ} {after : List ℕ} → x ≡ y → ◌≡◌ {A = List ℕ × List ℕ} (x, after) (y, after)
pair_at {x} {y} {after} e = subst (λ (z : List ℕ). ◌≡◌ {A = List ℕ × List ℕ} (x, after) (z, after)) e refl

part_read : (point part rest : List ℕ) → IsPoint point part → list_all is_ascii_digit part ≡ true → Stops rest → part_of (point ++ (part ++ rest)) ≡ (part, rest)
part_read point part rest h k l = ⊎_elim {C = part_of (point ++ (part ++ rest)) ≡ (part, rest)}
    (λ (e : point ≡ 46 ∷ []). ap (λ (x : List ℕ). part_of (x ++ (part ++ rest))) e ∙ point_read (part ++ rest) ∙ span_is is_ascii_digit part rest k l.digits)
    (λ (e : (point ≡ []) × (part ≡ [])).
    ap (λ (x : List ℕ). part_of (x ++ (part ++ rest))) e.0 ∙ ap (λ (x : List ℕ). part_of (x ++ rest)) e.1 ∙ no_point_read rest l.point
    ∙ pair_at (sym e.1))
    h

point_stops : (point part rest : List ℕ) → IsPoint point part → Stops rest → stops is_ascii_digit (point ++ (part ++ rest)) ≡ true
point_stops point part rest h l = ⊎_elim {C = stops is_ascii_digit (point ++ (part ++ rest)) ≡ true}
    (λ (e : point ≡ 46 ∷ []). ap (λ (x : List ℕ). stops is_ascii_digit (x ++ (part ++ rest))) e)
    (λ (e : (point ≡ []) × (part ≡ [])).
    ap (λ (x : List ℕ). stops is_ascii_digit (x ++ (part ++ rest))) e.0 ∙ ap (λ (x : List ℕ). stops is_ascii_digit (x ++ rest)) e.1 ∙ l.digits)
    h

-- ---- an exponent
abbrev exponent_at : Bool → List ℕ → List ℕ → Exponent
exponent_at down digits rest = record { down = down; digits = digits; rest = rest }

scale_so : (text behind t digits rest : List ℕ) (down : Bool) → sign_of behind ≡ (down, t) → span_of is_ascii_digit t ≡ (digits, rest) → 0 < length digits → scale_of text behind ≡ exponent_at down digits rest
unfolding scale_of
scale_so text behind t digits rest down a b some = rw (a, b, lt-ltb 0 _ some) refl

letter_read : (letter behind : List ℕ) → (letter ≡ 101 ∷ []) ⊎ (letter ≡ 69 ∷ []) → exponent_of (letter ++ behind) ≡ scale_of (letter ++ behind) behind
unfolding exponent_of
letter_read letter behind h = ⊎_elim {C = exponent_of (letter ++ behind) ≡ scale_of (letter ++ behind) behind}
    (λ (e : letter ≡ 101 ∷ []). subst (λ (x : List ℕ). exponent_of (x ++ behind) ≡ scale_of (x ++ behind) behind) (sym e) refl)
    (λ (e : letter ≡ 69 ∷ []). subst (λ (x : List ℕ). exponent_of (x ++ behind) ≡ scale_of (x ++ behind) behind) (sym e) refl)
    h

starts_digits : (digits rest : List ℕ) → list_all is_ascii_digit digits ≡ true → 0 < length digits → starts (digits ++ rest) ≡ true
starts_digits [] rest h l = absurd (omega arith)
starts_digits (byte ∷ bytes) rest h l = first_digit byte bytes h

written_read : (exponent after : List ℕ) (down : Bool) (digits : List ℕ) → IsWrittenExponent exponent down digits → list_all is_blank after ≡ true → exponent_of (exponent ++ after) ≡ exponent_at down digits after
written_read exponent after down digits w k =
    let all = list_all-from_AllPass is_ascii_digit digits w.all_digits in
    let joined : exponent ++ after ≡ w.letter ++ (w.sign ++ (digits ++ after)) = ap (λ (x : List ℕ). x ++ after) w.text_is ∙ simp append_assoc refl in
    ap exponent_of joined ∙ letter_read w.letter (w.sign ++ (digits ++ after)) w.letter_is
    ∙ scale_so _ _ (digits ++ after) digits after down (sign_read w.sign down (digits ++ after) w.sign_is (starts_digits digits after all w.some_digit)) (span_is is_ascii_digit digits after all (after_stops after k).digits) w.some_digit

none_read : (after : List ℕ) → list_all is_blank after ≡ true → exponent_of after ≡ no_exponent after
unfolding exponent_of
none_read [] h = refl
none_read (byte ∷ bytes) h =
    let p = and_parts (is_blank byte) (list_all is_blank bytes) h in
    let l = blank_low byte p.0 in
    rw (ne_eqb byte 101 (λ (e : byte ≡ 101). absurd (omega arith)), ne_eqb byte 69 (λ (e : byte ≡ 69). absurd (omega arith))) refl

exponent_read : (exponent after : List ℕ) (down : Bool) (digits : List ℕ) → IsExponent exponent down digits → list_all is_blank after ≡ true → exponent_of (exponent ++ after) ≡ exponent_at down digits after
exponent_read exponent after down digits h k = ⊎_elim {C = exponent_of (exponent ++ after) ≡ exponent_at down digits after}
    (λ (w : IsWrittenExponent exponent down digits). written_read exponent after down digits w k)
    (λ (n : IsNoExponent exponent down digits).
    ap (λ (x : List ℕ). exponent_of (x ++ after)) n.text_is ∙ none_read after k ∙ ap (λ (x : Bool). exponent_at x [] after) (sym n.down_is) ∙ ap (λ (x : List ℕ). exponent_at down x after) (sym n.digits_are))
    h

-- ---- a decimal
start_so : (text t u v after : List ℕ) (d : Decimal) → sign_of text ≡ (d.negative, t) → span_of is_ascii_digit t ≡ (d.whole, u) → part_of u ≡ (d.part, v)
    → exponent_of v ≡ exponent_at d.down d.exponent after → 0 < length d.whole + length d.part → start_of text ≡ Some (record { decimal = d; rest = after })
unfolding start_of
start_so text t u v after d a b c e some = rw (a, b, c, e, lt-ltb 0 _ some) refl

-- what a plain decimal does at the start of a text
record Plain (plain : List ℕ) (d : Decimal) (after : List ℕ) : Type 0 where
  pub start : start_of (plain ++ after) ≡ Some (record { decimal = d; rest = after })
  pub stops : stops is_blank (plain ++ after) ≡ true

plain_read : (plain after : List ℕ) (d : Decimal) → IsPlainDecimal plain d → list_all is_blank after ≡ true → Plain plain d after
plain_read plain after d h k =
    let whole = list_all-from_AllPass is_ascii_digit d.whole h.whole_digits in
    let part = list_all-from_AllPass is_ascii_digit d.part h.part_digits in
    let behind = exponent_stops h.exponent after d.down d.exponent h.exponent_is k in
    let rest = h.exponent ++ after in
    let number = starts_number d.whole h.point d.part rest whole h.point_is h.some_digit in
    let joined : plain ++ after ≡ h.sign ++ (d.whole ++ (h.point ++ (d.part ++ rest))) = ap (λ (x : List ℕ). x ++ after) h.text_is ∙ simp append_assoc refl in
    record {
      start = ap start_of joined
          ∙ start_so _ _ _ rest after d (sign_read h.sign d.negative _ h.sign_is number) (span_is is_ascii_digit d.whole _ whole (point_stops h.point d.part rest h.point_is behind))
          (part_read h.point d.part rest h.point_is part behind) (exponent_read h.exponent after d.down d.exponent h.exponent_is k) h.some_digit;
      stops = ap (stops is_blank) joined ∙ sign_stops h.sign d.negative _ h.sign_is number;
    }

ended_so : (test : List ℕ → Bool) (text rest : List ℕ) (d : Decimal) → start_of text ≡ Some (record { decimal = d; rest = rest }) → test rest ≡ true → ended test (start_of text) ≡ Some d
ended_so test text rest d e h = ap (ended test) e ∙ ap (λ (b : Bool). cond b (Some d) None) h

pub decimal_read : (text : List ℕ) (d : Decimal) → IsDecimal text d → decimal_of text ≡ Some d
unfolding decimal_of
decimal_read text d h =
    let after = list_all-from_AllPass is_blank h.after h.after_blank in
    let p = plain_read h.plain h.after d h.plain_is after in
    let blanks : span_of is_blank text ≡ (h.before, h.plain ++ h.after) = ap (span_of is_blank) h.text_is ∙ span_is is_blank h.before _ (list_all-from_AllPass is_blank h.before h.before_blank) p.stops in
    rw blanks (ended_so (list_all is_blank) _ h.after d p.start after)

pub lower_read : (before plain : List ℕ) (d : Decimal) → AllPass is_blank before → IsPlainDecimal plain d → lower_of (before ++ plain) ≡ Some d
unfolding lower_of
lower_read before plain d b h =
    let p = plain_read plain [] d h refl in
    let same = append-nil plain in
    let blanks : span_of is_blank (before ++ plain) ≡ (before, plain) = span_is is_blank before plain (list_all-from_AllPass is_blank before b) (ap (stops is_blank) (sym same) ∙ p.stops) in
    rw blanks (ended_so is_empty plain [] d (ap start_of (sym same) ∙ p.start) refl)

pub upper_read : (plain after : List ℕ) (d : Decimal) → IsPlainDecimal plain d → AllPass is_blank after → upper_of (plain ++ after) ≡ Some d
unfolding upper_of
upper_read plain after d h a =
    let k = list_all-from_AllPass is_blank after a in
    ended_so (list_all is_blank) _ after d (plain_read plain after d h k).start k

-- the digits of an exponent are digits
pub exponent_digits : (plain : List ℕ) (d : Decimal) → IsPlainDecimal plain d → AllPass is_ascii_digit d.exponent
exponent_digits plain d h = ⊎_elim {C = AllPass is_ascii_digit d.exponent}
    (λ (w : IsWrittenExponent h.exponent d.down d.exponent). w.all_digits)
    (λ (n : IsNoExponent h.exponent d.down d.exponent). subst (AllPass is_ascii_digit) (sym n.digits_are) (AllPass-from_list_all is_ascii_digit [] refl))
    h.exponent_is
