-- What a reader took from the front of the bytes is written as the grammar says.
use Rattle.std.proofs.Common.{◌≡◌, ◌≢◌, ℕ, ◌<◌, true, List, [], ◌∷◌, ◌++◌, length, codes, Some, refl, ap, subst, ◌∙◌, arith}
use Rattle.std.specs.List.{take_while, AllPass}
use Rattle.std.proofs.lemmas.Bool.{and_parts}
use Rattle.std.proofs.lemmas.List.{length-append}
use Rattle.rb_tags.specs.declared.tag.Attr.{Attr}
use Rattle.rb_tags.specs.References.{◌>?=◌, value_of}
use Rattle.rb_tags.specs.Bytes.{is_space, is_name_byte, is_value_byte, is_quote, past, after_front}
use Rattle.rb_tags.specs.Marks.{begins_name, name_at, opening_at, quoted_at, attr_at, is_nonempty, attr_follows}
use Rattle.rb_tags.specs.Grammar.{IsSpace, IsName}
use Rattle.rb_tags.proofs.Steps.{bind_some, test_some, some_is, run_split, run_passes, front_of_one}

pub record TakesName (bytes : List ℕ) (x : List ℕ × List ℕ) : Type 0 where
  pub name : IsName x.0
  pub parts : bytes ≡ x.0 ++ x.1

pub name_takes : (bytes : List ℕ) (x : List ℕ × List ℕ) → name_at bytes ≡ Some x → TakesName bytes x
unfolding name_at
name_takes bytes x e =
    let made : List ℕ × List ℕ = (take_while is_name_byte bytes, past is_name_byte bytes) in
    let t = test_some (begins_name (take_while is_name_byte bytes)) (Some made) x e in
    subst (λ (y : List ℕ × List ℕ). TakesName bytes y) {x = made} (some_is made x t.1) (record {
      name = record { of_name_bytes = run_passes is_name_byte bytes; begins = t.0 };
      parts = run_split is_name_byte bytes;
    })

record TakesOpening (bytes : List ℕ) (x : ℕ × List ℕ) : Type 0 where
  quote : is_quote x.0 ≡ true
  parts : bytes ≡ x.0 ∷ x.1

opening_takes : (bytes : List ℕ) (x : ℕ × List ℕ) → opening_at bytes ≡ Some x → TakesOpening bytes x
unfolding opening_at
opening_takes [] x e = absurd cc
opening_takes (b ∷ bs) x e =
    let made : ℕ × List ℕ = (b, bs) in
    let t = test_some (is_quote b) (Some made) x e in
    subst (λ (y : ℕ × List ℕ). TakesOpening (b ∷ bs) y) {x = made} (some_is made x t.1) (record { quote = t.0; parts = refl })

-- a value in quotes, and what its text says
pub record TakesQuoted (bytes : List ℕ) (x : List ℕ × List ℕ) : Type 0 where
  pub quote : ℕ
  pub inside : List ℕ
  pub is_quote : is_quote quote ≡ true
  pub value : AllPass (is_value_byte quote) inside
  pub says : value_of inside ≡ Some x.0
  pub parts : bytes ≡ quote ∷ (inside ++ quote ∷ x.1)

pub quoted_takes : (bytes : List ℕ) (x : List ℕ × List ℕ) → quoted_at bytes ≡ Some x → TakesQuoted bytes x
unfolding quoted_at
quoted_takes bytes x e =
    let o = bind_some (opening_at bytes) (λ opened. after_front (opened.0 ∷ []) (past (is_value_byte opened.0) opened.1) >?= λ rest. value_of (take_while (is_value_byte opened.0) opened.1) >?= λ value. Some (value, rest)) x e in
    let quote = o.0.0 in
    let inside = take_while (is_value_byte quote) o.0.1 in
    let r = bind_some (after_front (quote ∷ []) (past (is_value_byte quote) o.0.1)) (λ rest. value_of inside >?= λ value. Some (value, rest)) x o.2 in
    let v = bind_some (value_of inside) (λ value. Some (value, r.0)) x r.2 in
    let opens = opening_takes bytes o.0 o.1 in
    let made : List ℕ × List ℕ = (v.0, r.0) in
    subst (λ (y : List ℕ × List ℕ). TakesQuoted bytes y) {x = made} (some_is made x v.2) (record {
      quote = quote;
      inside = inside;
      is_quote = opens.quote;
      value = run_passes (is_value_byte quote) o.0.1;
      says = v.1;
      parts = opens.parts ∙ ap (λ (t : List ℕ). quote ∷ t) (run_split (is_value_byte quote) o.0.1 ∙ ap (λ (t : List ℕ). inside ++ t) (front_of_one quote (past (is_value_byte quote) o.0.1) r.0 r.1));
    })

-- an attribute with the white space before it, and what the text of its value says
pub record TakesAttr (bytes : List ℕ) (x : Attr × List ℕ) : Type 0 where
  pub before : List ℕ
  pub left : List ℕ
  pub right : List ℕ
  pub quote : ℕ
  pub inside : List ℕ
  pub apart : before ≢ []
  pub is_before : IsSpace before
  pub is_name : IsName x.0.name
  pub is_left : IsSpace left
  pub is_right : IsSpace right
  pub is_quote : is_quote quote ≡ true
  pub value : AllPass (is_value_byte quote) inside
  pub says : value_of inside ≡ Some x.0.value
  pub parts : bytes ≡ before ++ (x.0.name ++ (left ++ 61 ∷ (right ++ quote ∷ (inside ++ quote ∷ x.1))))

nonempty_is : (bytes : List ℕ) → is_nonempty bytes ≡ true → bytes ≢ []
nonempty_is [] h e = cc
nonempty_is (b ∷ bs) h e = cc

pub attr_takes : (bytes : List ℕ) (x : Attr × List ℕ) → attr_follows bytes ≡ true → attr_at (past is_space bytes) ≡ Some x → TakesAttr bytes x
unfolding attr_at attr_follows
attr_takes bytes x follows e =
    let n = bind_some (name_at (past is_space bytes)) (λ name. after_front (codes "=") (past is_space name.1) >?= λ equals. quoted_at (past is_space equals) >?= λ value. Some (record { name = name.0; value = value.0 }, value.1)) x e in
    let q = bind_some (after_front (codes "=") (past is_space n.0.1)) (λ equals. quoted_at (past is_space equals) >?= λ value. Some (record { name = n.0.0; value = value.0 }, value.1)) x n.2 in
    let v = bind_some (quoted_at (past is_space q.0)) (λ value. Some (record { name = n.0.0; value = value.0 }, value.1)) x q.2 in
    let name = name_takes (past is_space bytes) n.0 n.1 in
    let quoted = quoted_takes (past is_space q.0) v.0 v.1 in
    let apart = and_parts _ _ follows in
    let before = take_while is_space bytes in
    let left = take_while is_space n.0.1 in
    let right = take_while is_space q.0 in
    let e1 : n.0.1 ≡ left ++ 61 ∷ q.0 = run_split is_space n.0.1 ∙ ap (λ (t : List ℕ). left ++ t) (front_of_one 61 (past is_space n.0.1) q.0 q.1) in
    let e2 : q.0 ≡ right ++ quoted.quote ∷ (quoted.inside ++ quoted.quote ∷ v.0.1) = run_split is_space q.0 ∙ ap (λ (t : List ℕ). right ++ t) quoted.parts in
    let made : Attr × List ℕ = (record { name = n.0.0; value = v.0.0 }, v.0.1) in
    subst (λ (y : Attr × List ℕ). TakesAttr bytes y) {x = made} (some_is made x v.2) (record {
      before = before;
      left = left;
      right = right;
      quote = quoted.quote;
      inside = quoted.inside;
      apart = nonempty_is before apart.0;
      is_before = run_passes is_space bytes;
      is_name = name.name;
      is_left = run_passes is_space n.0.1;
      is_right = run_passes is_space q.0;
      is_quote = quoted.is_quote;
      value = quoted.value;
      says = quoted.says;
      parts = run_split is_space bytes ∙ ap (λ (t : List ℕ). before ++ t) (name.parts ∙ ap (λ (t : List ℕ). n.0.0 ++ t) (e1 ∙ ap (λ (t : List ℕ). left ++ 61 ∷ t) e2));
    })

-- an attribute takes some bytes
pub attr_shortens : (bytes : List ℕ) (x : Attr × List ℕ) → attr_follows bytes ≡ true → attr_at (past is_space bytes) ≡ Some x → length x.1 < length bytes
attr_shortens bytes x follows e =
    let t = attr_takes bytes x follows e in
    let parts = t.parts in
    omega (arith, simp length-append at (ap length parts))
