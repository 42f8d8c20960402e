-- What a value says.
use Rattle.std.proofs.Common.{◌≡◌, ◌≢◌, ℕ, zero, suc, ◌<◌, ◌≤◌, Bool, true, false, not, cond, eqb, List, [], ◌∷◌, ◌++◌, length, Option, Some, None, lit≤, refl, sym, ap, subst, ◌∙◌, arith, append_assoc}
use Rattle.std.specs.List.{take_while, AllPass, AllByRecursion, flat_map, list_all}
use Rattle.std.specs.Str.{bytes_eq}
use Rattle.std.specs.Str.Parse.{AllDigits}
use Rattle.std.specs.Char.{digit_value}
use Rattle.std.proofs.lemmas.Bool.{eqb-true}
use Rattle.std.proofs.lemmas.Bool.Decides.{nat_tests}
use Rattle.std.proofs.lemmas.Slice.Eq.{bytes_eq-Decides}
use Rattle.std.proofs.lemmas.List.Sums.{AllPass-from_list_all}
use Rattle.std.proofs.lemmas.List.Elements.{All-head, All-tail, All-from_recursion}
use Rattle.rb_tags.specs.Bytes.{is_plain_byte, is_reference_byte, past, if_more}
use Rattle.rb_tags.specs.References.{◌>?=◌, character_of, number_of, entity_of, reference_of, reference_at, value_within, value_of}
use Rattle.rb_tags.specs.Values.{Entity, Ampersand, Less, Greater, Quote, Apostrophe, entity_name, entity_byte, Piece, Plain, Named, Decimal, Hexadecimal, IsCharacter, IsPiece, piece_text, piece_value, SaysValue}
use Rattle.rb_tags.proofs.Steps.{bind_some, some_is, run_split, run_passes}
use Rattle.rb_tags.proofs.Runs.{Stops, front_found, run_again, past_again, take_while_yes, take_while_no, past_yes, past_no, past_stops}
use Rattle.rb_tags.proofs.References.{character_made, character_is}
use Rattle.rb_tags.proofs.ValueSteps.{reference_takes, more_of, value_step}

-- ---- what is read is written so

-- how a reference is written, from what stands between & and ;
record Refers (name value : List ℕ) : Type 0 where
  piece : Piece
  is : IsPiece piece
  text : piece_text piece ≡ 38 ∷ (name ++ 59 ∷ [])
  says : piece_value piece ≡ value

refers_decimal : (digits value : List ℕ) → character_of 10 digits ≡ Some value → Refers (35 ∷ digits) value
refers_decimal digits value e = let says = character_is 10 digits value e in record { piece = Decimal digits; is = says.is; text = refl; says = says.value_is }

refers_hexadecimal : (digits value : List ℕ) → character_of 16 digits ≡ Some value → Refers (35 ∷ 120 ∷ digits) value
refers_hexadecimal digits value e = let says = character_is 16 digits value e in record { piece = Hexadecimal digits; is = says.is; text = refl; says = says.value_is }

refers_number : (number value : List ℕ) → number_of number ≡ Some value → Refers (35 ∷ number) value
unfolding number_of
refers_number [] value e = absurd cc
refers_number (b ∷ bs) value e = by_test (eqb b 120) refl e
  where
    by_test : (t : Bool) → eqb b 120 ≡ t → cond t (character_of 16 bs) (character_of 10 (b ∷ bs)) ≡ Some value → Refers (35 ∷ (b ∷ bs)) value
    by_test true same given = subst (λ (c : ℕ). Refers (35 ∷ (c ∷ bs)) value) (sym (eqb-true b 120 same)) (refers_hexadecimal bs value given)
    by_test false same given = refers_decimal (b ∷ bs) value given

refers_named : (name value : List ℕ) (entity : Entity) (other : Option (List ℕ)) → cond (bytes_eq name (entity_name entity)) (Some (entity_byte entity ∷ [])) other ≡ Some value → (other ≡ Some value → Refers name value) → Refers name value
refers_named name value entity other e otherwise = by_test (bytes_eq name (entity_name entity)) refl e
  where
    by_test : (t : Bool) → bytes_eq name (entity_name entity) ≡ t → cond t (Some (entity_byte entity ∷ [])) other ≡ Some value → Refers name value
    by_test true same given =
        let is : name ≡ entity_name entity = (bytes_eq-Decides name (entity_name entity)).0 same in
        record { piece = Named entity; is = tt; text = ap (λ (n : List ℕ). 38 ∷ (n ++ 59 ∷ [])) (sym is); says = some_is _ _ given }
    by_test false same given = otherwise given

refers_entity : (name value : List ℕ) → entity_of name ≡ Some value → Refers name value
unfolding entity_of
refers_entity name value e =
    refers_named name value Ampersand _ e λ e.
    refers_named name value Less _ e λ e.
    refers_named name value Greater _ e λ e.
    refers_named name value Quote _ e λ e.
    refers_named name value Apostrophe _ e λ e. absurd cc

refers : (name value : List ℕ) → reference_of name ≡ Some value → Refers name value
unfolding reference_of
refers [] value e = absurd cc
refers (b ∷ bs) value e = by_test (eqb b 35) refl e
  where
    by_test : (t : Bool) → eqb b 35 ≡ t → cond t (number_of bs) (entity_of (b ∷ bs)) ≡ Some value → Refers (b ∷ bs) value
    by_test true same given = subst (λ (c : ℕ). Refers (c ∷ bs) value) (sym (eqb-true b 35 same)) (refers_number bs value given)
    by_test false same given = refers_entity (b ∷ bs) value given

-- texts that say values, one after another
says_nothing : SaysValue [] []
says_nothing = record { pieces = []; are_pieces = tt; text_is = refl; value_is = refl }

says_piece : (piece : Piece) (text value : List ℕ) → IsPiece piece → SaysValue text value → SaysValue (piece_text piece ++ text) (piece_value piece ++ value)
says_piece piece text value is others = record {
  pieces = piece ∷ others.pieces;
  are_pieces = (is, others.are_pieces);
  text_is = ap (λ (t : List ℕ). piece_text piece ++ t) others.text_is;
  value_is = ap (λ (t : List ℕ). piece_value piece ++ t) others.value_is;
}

plain_not : (b : ℕ) → is_plain_byte b ≡ true → b ≢ 38
unfolding is_plain_byte
plain_not b h = grind (arith, nat_tests)

says_plain : (plain text value : List ℕ) → AllPass is_plain_byte plain → SaysValue text value → SaysValue (plain ++ text) (plain ++ value)
says_plain [] text value all others = others
says_plain (b ∷ plain) text value all others =
    says_piece (Plain b) (plain ++ text) (plain ++ value) (plain_not b (All-head (λ x. is_plain_byte x ≡ true) b plain all)) (says_plain plain text value (All-tail (λ x. is_plain_byte x ≡ true) b plain all) others)

says_reference : (name text said value : List ℕ) → Refers name said → SaysValue text value → SaysValue (38 ∷ (name ++ 59 ∷ text)) (said ++ value)
says_reference name text said value refers others =
    let whole : piece_text refers.piece ++ text ≡ 38 ∷ (name ++ 59 ∷ text) = ap (λ (t : List ℕ). t ++ text) refers.text ∙ ap (λ (t : List ℕ). 38 ∷ t) (append_assoc name (59 ∷ []) text) in
    subst (λ (t : List ℕ). SaysValue t (said ++ value)) whole (subst (λ (v : List ℕ). SaysValue (piece_text refers.piece ++ text) (v ++ value)) refers.says (says_piece refers.piece text value refers.is others))

only_ampersand : (b : ℕ) → is_plain_byte b ≡ false → b ≡ 38
unfolding is_plain_byte
only_ampersand b h = grind (arith, nat_tests)

ampersand : (b : ℕ) (text bytes : List ℕ) → past is_plain_byte text ≡ b ∷ bytes → b ≡ 38
ampersand b text bytes e = only_ampersand b (subst (λ (t : List ℕ). Stops is_plain_byte t) e (past_stops is_plain_byte text))

within_sound : (n : ℕ) (text value : List ℕ) → value_within n text ≡ Some value → SaysValue text value
unfolding value_within
within_sound zero text value e = absurd cc
within_sound (suc n) text value e = by_past (past is_plain_byte text) refl e (λ rest others. within_sound n rest others)
  where
    by_past : (rest : List ℕ) → past is_plain_byte text ≡ rest → if_more rest (Some text) (more_of (take_while is_plain_byte text) (value_within n)) ≡ Some value → ((rest others : List ℕ) → value_within n rest ≡ Some others → SaysValue rest others) → SaysValue text value
    by_past [] past_is given sound =
        let whole : take_while is_plain_byte text ++ [] ≡ text = sym (run_split is_plain_byte text ∙ ap (λ (t : List ℕ). take_while is_plain_byte text ++ t) past_is) in
        let says = says_plain (take_while is_plain_byte text) [] [] (run_passes is_plain_byte text) says_nothing in
        subst (λ (v : List ℕ). SaysValue text v) (some_is text value given) (subst (λ (t : List ℕ). SaysValue t t) whole says)
    by_past (b ∷ bytes) past_is given sound =
        let read = bind_some (reference_at bytes) (λ read. value_within n read.1 >?= λ value. Some (take_while is_plain_byte text ++ (read.0 ++ value))) value given in
        let others = bind_some (value_within n read.0.1) (λ value. Some (take_while is_plain_byte text ++ (read.0.0 ++ value))) value read.2 in
        let takes = reference_takes bytes read.0 read.1 in
        let name = take_while is_reference_byte bytes in
        let reference = says_reference name read.0.1 read.0.0 others.0 (refers name read.0.0 takes.says) (sound read.0.1 others.0 others.1) in
        let says = says_plain (take_while is_plain_byte text) _ _ (run_passes is_plain_byte text) reference in
        let behind : past is_plain_byte text ≡ 38 ∷ (name ++ 59 ∷ read.0.1) = past_is ∙ ap (λ (c : ℕ). c ∷ bytes) (ampersand b text bytes past_is) ∙ ap (λ (t : List ℕ). 38 ∷ t) takes.parts in
        let whole = sym (run_split is_plain_byte text ∙ ap (λ (t : List ℕ). take_while is_plain_byte text ++ t) behind) in
        subst (λ (v : List ℕ). SaysValue text v) (some_is _ value others.2) (subst (λ (t : List ℕ). SaysValue t (take_while is_plain_byte text ++ (read.0.0 ++ others.0))) whole says)

pub value_sound : (text value : List ℕ) → value_of text ≡ Some value → SaysValue text value
unfolding value_of
value_sound text value e = within_sound (suc (length text)) text value e

-- ---- what is written so is read

-- a reference, from what stands between & and ;
record IsReference (piece : Piece) : Type 0 where
  name : List ℕ
  passes : AllPass is_reference_byte name
  text : piece_text piece ≡ 38 ∷ (name ++ 59 ∷ [])
  says : reference_of name ≡ Some (piece_value piece)

named_passes : (entity : Entity) → list_all is_reference_byte (entity_name entity) ≡ true
unfolding is_reference_byte
named_passes Ampersand = refl
named_passes Less = refl
named_passes Greater = refl
named_passes Quote = refl
named_passes Apostrophe = refl

named_says : (entity : Entity) → reference_of (entity_name entity) ≡ Some (entity_byte entity ∷ [])
unfolding reference_of entity_of
named_says Ampersand = refl
named_says Less = refl
named_says Greater = refl
named_says Quote = refl
named_says Apostrophe = refl

named_is : (entity : Entity) → IsReference (Named entity)
named_is entity = record {
  name = entity_name entity;
  passes = AllPass-from_list_all is_reference_byte (entity_name entity) (named_passes entity);
  text = refl;
  says = named_says entity;
}

digit_passes : (radix c : ℕ) → radix ≤ 36 → digit_value c < radix → is_reference_byte c ≡ true
unfolding is_reference_byte
digit_passes radix c le lt = by_test (eqb c 59) refl
  where
    by_test : (t : Bool) → eqb c 59 ≡ t → not t ≡ true
    by_test true same = let is = eqb-true c 59 same in let low : digit_value 59 < radix = subst (λ (d : ℕ). digit_value d < radix) is lt in absurd (omega arith)
    by_test false same = refl

digits_pass : (radix : ℕ) (digits : List ℕ) → radix ≤ 36 → AllDigits radix digits → AllByRecursion (λ c. is_reference_byte c ≡ true) digits
digits_pass radix [] le all = tt
digits_pass radix (c ∷ cs) le all = (digit_passes radix c le all.0, digits_pass radix cs le all.1)

all_pass : (bytes : List ℕ) → AllByRecursion (λ c. is_reference_byte c ≡ true) bytes → AllPass is_reference_byte bytes
all_pass bytes all = All-from_recursion (λ (c : ℕ). is_reference_byte c ≡ true) bytes all

number_decimal : (digits : List ℕ) → IsCharacter 10 digits → number_of digits ≡ character_of 10 digits
unfolding number_of
number_decimal [] is = absurd (omega (arith, is.numeral.0))
number_decimal (b ∷ bs) is = by_test (eqb b 120) refl
  where
    by_test : (t : Bool) → eqb b 120 ≡ t → cond t (character_of 16 bs) (character_of 10 (b ∷ bs)) ≡ character_of 10 (b ∷ bs)
    by_test true same = let x = eqb-true b 120 same in let low : digit_value 120 < 10 = subst (λ (d : ℕ). digit_value d < 10) x is.numeral.1.0 in absurd (omega arith)
    by_test false same = refl

decimal_is : (digits : List ℕ) → IsCharacter 10 digits → IsReference (Decimal digits)
unfolding reference_of
decimal_is digits is = record {
  name = 35 ∷ digits;
  passes = all_pass (35 ∷ digits) (unfold is_reference_byte in refl, digits_pass 10 digits (lit≤ tt) is.numeral.1);
  text = refl;
  says = number_decimal digits is ∙ character_made 10 digits is;
}

hexadecimal_is : (digits : List ℕ) → IsCharacter 16 digits → IsReference (Hexadecimal digits)
unfolding reference_of number_of
hexadecimal_is digits is = record {
  name = 35 ∷ 120 ∷ digits;
  passes = all_pass (35 ∷ 120 ∷ digits) (unfold is_reference_byte in refl, (unfold is_reference_byte in refl, digits_pass 16 digits (lit≤ tt) is.numeral.1));
  text = refl;
  says = character_made 16 digits is;
}

plain_is : (b : ℕ) → b ≢ 38 → is_plain_byte b ≡ true
unfolding is_plain_byte
plain_is b other = grind (arith, nat_tests)

plain_again : (b : ℕ) (text value : List ℕ) → b ≢ 38 → value_of text ≡ Some value → value_of (b ∷ text) ≡ Some (b ∷ value)
plain_again b text value other e =
    let plain = plain_is b other in
    let step = rw (past_yes is_plain_byte b text plain, take_while_yes is_plain_byte b text plain) at (value_step (b ∷ text)) in
    step ∙ by_past (past is_plain_byte text) (sym (value_step text) ∙ e)
  where
    by_read : (o : Option (List ℕ × List ℕ)) → (o >?= λ read. value_of read.1 >?= λ others. Some (take_while is_plain_byte text ++ (read.0 ++ others))) ≡ Some value → (o >?= λ read. value_of read.1 >?= λ others. Some (b ∷ (take_while is_plain_byte text ++ (read.0 ++ others)))) ≡ Some (b ∷ value)
    by_read None given = absurd cc
    by_read (Some read) given =
        let others = bind_some (value_of read.1) (λ others. Some (take_while is_plain_byte text ++ (read.0 ++ others))) value given in
        rw others.1 (ap (λ (v : List ℕ). Some (b ∷ v)) (some_is _ value others.2))

    by_past : (rest : List ℕ) → if_more rest (Some text) (more_of (take_while is_plain_byte text) value_of) ≡ Some value → if_more rest (Some (b ∷ text)) (more_of (b ∷ take_while is_plain_byte text) value_of) ≡ Some (b ∷ value)
    by_past [] given = ap (λ (v : List ℕ). Some (b ∷ v)) (some_is text value given)
    by_past (c ∷ bytes) given = by_read (reference_at bytes) given

reads_back : (name said text : List ℕ) → AllPass is_reference_byte name → reference_of name ≡ Some said → reference_at (name ++ 59 ∷ text) ≡ Some (said, text)
unfolding reference_at
reads_back name said text passes says =
    let stops : Stops is_reference_byte (59 ∷ text) = unfold is_reference_byte in refl in
    rw (past_again is_reference_byte name (59 ∷ text) passes stops, run_again is_reference_byte name (59 ∷ text) passes stops, front_found (59 ∷ []) text, says) refl

reference_first : (name said text value : List ℕ) → AllPass is_reference_byte name → reference_of name ≡ Some said → value_of text ≡ Some value → value_of (38 ∷ (name ++ 59 ∷ text)) ≡ Some (said ++ value)
reference_first name said text value passes says e =
    let ampersand : is_plain_byte 38 ≡ false = unfold is_plain_byte in refl in
    let step = rw (past_no is_plain_byte 38 (name ++ 59 ∷ text) ampersand, take_while_no is_plain_byte 38 (name ++ 59 ∷ text) ampersand, reads_back name said text passes says, e) at (value_step (38 ∷ (name ++ 59 ∷ text))) in
    step

reference_again : (piece : Piece) (text value : List ℕ) → IsReference piece → value_of text ≡ Some value → value_of (piece_text piece ++ text) ≡ Some (piece_value piece ++ value)
reference_again piece text value is e =
    let whole : piece_text piece ++ text ≡ 38 ∷ (is.name ++ 59 ∷ text) = ap (λ (t : List ℕ). t ++ text) is.text ∙ ap (λ (t : List ℕ). 38 ∷ t) (append_assoc is.name (59 ∷ []) text) in
    rw whole (reference_first is.name (piece_value piece) text value is.passes is.says e)

pieces_read : (pieces : List Piece) → AllByRecursion IsPiece pieces → value_of (flat_map piece_text pieces) ≡ Some (flat_map piece_value pieces)
unfolding past
pieces_read [] all = value_step []
pieces_read (Plain b ∷ pieces) all = plain_again b _ _ all.0 (pieces_read pieces all.1)
pieces_read (Named entity ∷ pieces) all = reference_again (Named entity) _ _ (named_is entity) (pieces_read pieces all.1)
pieces_read (Decimal digits ∷ pieces) all = reference_again (Decimal digits) _ _ (decimal_is digits all.0) (pieces_read pieces all.1)
pieces_read (Hexadecimal digits ∷ pieces) all = reference_again (Hexadecimal digits) _ _ (hexadecimal_is digits all.0) (pieces_read pieces all.1)

pub value_complete : (text value : List ℕ) → SaysValue text value → value_of text ≡ Some value
value_complete text value h = ap value_of h.text_is ∙ pieces_read h.pieces h.are_pieces ∙ ap (λ (v : List ℕ). Some v) (sym h.value_is)
