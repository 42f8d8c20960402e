-- Tags that are read are written as the grammar says.
use Rattle.std.proofs.Common.{◌≡◌, ℕ, zero, suc, Bool, true, false, not, cond, eqb, List, [], ◌∷◌, ◌++◌, length, map, Some, None, refl, sym, ap, subst, ◌∙◌, append_assoc, ◌&&◌, ◌⊎◌, inl, inr}
use Rattle.std.specs.List.{take_while, AllPass, AllByRecursion, flat_map}
use Rattle.std.proofs.lemmas.Bool.{eqb-true, and_parts}
use Rattle.std.proofs.lemmas.List.{append-nil}
use Rattle.std.proofs.lemmas.List.Concat.{flat_map-cons}
use Rattle.rb_tags.specs.declared.tag.Attr.{Attr}
use Rattle.rb_tags.specs.declared.marks.StartTag.{StartTag}
use Rattle.rb_tags.specs.References.{◌>?=◌}
use Rattle.rb_tags.specs.Bytes.{is_space, is_value_byte, past}
use Rattle.rb_tags.specs.Marks.{name_at, attr_at, is_nonempty, attr_follows, attrs_at, ending_of, start_in, end_in}
use Rattle.rb_tags.specs.Values.{piece_text}
use Rattle.rb_tags.specs.Grammar.{WrittenAttr, IsAttr, attr_text, attr_of, WrittenStart, IsStart, start_of, IsEnd}
use Rattle.rb_tags.proofs.Steps.{bind_some, test_some, some_is, run_split, run_passes}
use Rattle.rb_tags.proofs.Takes.{name_takes, TakesAttr, attr_takes}
use Rattle.rb_tags.proofs.ValueLaws.{value_sound}

-- an attribute as it is written
record AsWritten (bytes : List ℕ) (x : Attr × List ℕ) : Type 0 where
  written : WrittenAttr
  is_attr : IsAttr written
  parts : bytes ≡ attr_text written ++ x.1
  attr : x.0 ≡ attr_of written

regroup : (before name left right inside rest : List ℕ) (quote : ℕ) → before ++ (name ++ (left ++ 61 ∷ (right ++ quote ∷ (inside ++ quote ∷ rest)))) ≡ (before ++ (name ++ (left ++ 61 ∷ (right ++ quote ∷ (inside ++ quote ∷ []))))) ++ rest
regroup before name left right inside rest quote = simp append_assoc

attr_written : (bytes : List ℕ) (x : Attr × List ℕ) → TakesAttr bytes x → AsWritten bytes x
attr_written bytes x t =
    let says = value_sound t.inside x.0.value t.says in
    let text = flat_map piece_text says.pieces in
    let around = λ (inside : List ℕ). (t.before ++ (x.0.name ++ (t.left ++ 61 ∷ (t.right ++ t.quote ∷ (inside ++ t.quote ∷ []))))) ++ x.1 in
    record {
      written = record { before = t.before; name = x.0.name; left = t.left; right = t.right; quote = t.quote; pieces = says.pieces };
      is_attr = record {
        apart = t.apart;
        before = t.is_before;
        name = t.is_name;
        left = t.is_left;
        right = t.is_right;
        quote = t.is_quote;
        pieces = says.are_pieces;
        value = subst (λ (bs : List ℕ). AllPass (is_value_byte t.quote) bs) says.text_is t.value;
      };
      parts = t.parts ∙ regroup t.before x.0.name t.left t.right t.inside x.1 t.quote ∙ ap around says.text_is;
      attr = ap (λ (v : List ℕ). record { name = x.0.name; value = v }) says.value_is;
    }

-- attributes one after another
record TakesAttrs (bytes : List ℕ) (x : List Attr × List ℕ) : Type 0 where
  written : List WrittenAttr
  are_attrs : AllByRecursion IsAttr written
  parts : bytes ≡ flat_map attr_text written ++ x.1
  attrs : x.0 ≡ map attr_of written

attrs_none : (bytes : List ℕ) → TakesAttrs bytes ([], bytes)
attrs_none bytes = record { written = []; are_attrs = tt; parts = refl; attrs = refl }

attrs_cons : (bytes : List ℕ) (a : Attr × List ℕ) (others : List Attr × List ℕ) → AsWritten bytes a → TakesAttrs a.1 others → TakesAttrs bytes (a.0 ∷ others.0, others.1)
attrs_cons bytes a others first more = record {
  written = first.written ∷ more.written;
  are_attrs = (first.is_attr, more.are_attrs);
  parts = first.parts ∙ ap (λ (t : List ℕ). attr_text first.written ++ t) more.parts ∙ sym (append_assoc (attr_text first.written) (flat_map attr_text more.written) others.1) ∙ ap (λ (t : List ℕ). t ++ others.1) (sym (flat_map-cons attr_text first.written more.written));
  attrs = ap (λ (b : Attr). b ∷ others.0) first.attr ∙ ap (λ (bs : List Attr). attr_of first.written ∷ bs) more.attrs;
}

record OneMore (n : ℕ) (bytes : List ℕ) (x : List Attr × List ℕ) : Type 0 where
  follows : attr_follows bytes ≡ true
  a : Attr × List ℕ
  others : List Attr × List ℕ
  first : attr_at (past is_space bytes) ≡ Some a
  more : attrs_at n a.1 ≡ Some others
  both : (a.0 ∷ others.0, others.1) ≡ x

attrs_split : (n : ℕ) (bytes : List ℕ) (x : List Attr × List ℕ) → attrs_at (suc n) bytes ≡ Some x → OneMore n bytes x ⊎ (([], bytes) ≡ x)
unfolding attrs_at
attrs_split n bytes x e = by_test (attr_follows bytes) refl e
  where
    by_test : (b : Bool) → attr_follows bytes ≡ b → cond b (attr_at (past is_space bytes) >?= λ first. attrs_at n first.1 >?= λ others. Some (first.0 ∷ others.0, others.1)) (Some ([], bytes)) ≡ Some x → OneMore n bytes x ⊎ (([], bytes) ≡ x)
    by_test true h given =
        let a = bind_some (attr_at (past is_space bytes)) (λ first. attrs_at n first.1 >?= λ others. Some (first.0 ∷ others.0, others.1)) x given in
        let b = bind_some (attrs_at n a.0.1) (λ others. Some (a.0.0 ∷ others.0, others.1)) x a.2 in
        let made : List Attr × List ℕ = (a.0.0 ∷ b.0.0, b.0.1) in
        inl (record { follows = h; a = a.0; others = b.0; first = a.1; more = b.1; both = some_is made x b.2 })
    by_test false h given = let made : List Attr × List ℕ = ([], bytes) in inr (some_is made x given)

attrs_take : (n : ℕ) (bytes : List ℕ) (x : List Attr × List ℕ) → attrs_at n bytes ≡ Some x → TakesAttrs bytes x
unfolding attrs_at
attrs_take zero bytes x e =
    let made : List Attr × List ℕ = ([], bytes) in
    subst (λ (y : List Attr × List ℕ). TakesAttrs bytes y) {x = made} (some_is made x e) (attrs_none bytes)
attrs_take (suc n) bytes x e =
    elim (attrs_split n bytes x e) [
      | inl one ↦ subst (λ (y : List Attr × List ℕ). TakesAttrs bytes y) one.both (attrs_cons bytes one.a one.others (attr_written bytes one.a (attr_takes bytes one.a one.follows one.first)) (attrs_take n one.a.1 one.others one.more))
      | inr none ↦ subst (λ (y : List Attr × List ℕ). TakesAttrs bytes y) none (attrs_none bytes)
    ]

-- what stands before the > of a start tag
abbrev pub slash : Bool → List ℕ
slash closes = cond closes (47 ∷ []) []

empty_is : (bytes : List ℕ) → is_nonempty bytes ≡ false → bytes ≡ []
empty_is [] e = refl
empty_is (b ∷ bs) e = absurd cc

ending_takes : (bytes : List ℕ) (closes : Bool) → ending_of bytes ≡ Some closes → bytes ≡ slash closes
unfolding ending_of
ending_takes [] closes e =
    let is : false ≡ closes = cc in
    let nothing : List ℕ = [] in
    subst (λ (c : Bool). nothing ≡ cond c (47 ∷ []) []) is refl
ending_takes (b ∷ bs) closes e =
    let t = test_some (eqb b 47 && not (is_nonempty bs)) (Some true) closes e in
    let both = and_parts (eqb b 47) (not (is_nonempty bs)) t.0 in
    let first : b ≡ 47 = eqb-true b 47 both.0 in
    let none : bs ≡ [] = empty_is bs (not_true (is_nonempty bs) both.1) in
    let is : true ≡ closes = some_is true closes t.1 in
    subst (λ (c : Bool). b ∷ bs ≡ cond c (47 ∷ []) []) is cc
  where
    not_true : (c : Bool) → not c ≡ true → c ≡ false
    not_true true h = absurd cc
    not_true false h = refl

pub record TakesStart (inside : List ℕ) (x : StartTag) : Type 0 where
  pub written : WrittenStart
  pub is_start : IsStart written
  pub parts : inside ≡ written.name ++ (flat_map attr_text written.attrs ++ (written.after ++ slash written.closes))
  pub start : x ≡ start_of written

pub start_takes : (inside : List ℕ) (x : StartTag) → start_in inside ≡ Some x → TakesStart inside x
unfolding start_in
start_takes inside x e =
    let n = bind_some (name_at inside) (λ name. attrs_at (length name.1) name.1 >?= λ attrs. ending_of (past is_space attrs.1) >?= λ closes. Some (record { name = name.0; attrs = attrs.0; closes = closes })) x e in
    let a = bind_some (attrs_at (length n.0.1) n.0.1) (λ attrs. ending_of (past is_space attrs.1) >?= λ closes. Some (record { name = n.0.0; attrs = attrs.0; closes = closes })) x n.2 in
    let t = bind_some (ending_of (past is_space a.0.1)) (λ closes. Some (record { name = n.0.0; attrs = a.0.0; closes = closes })) x a.2 in
    let made : StartTag = record { name = n.0.0; attrs = a.0.0; closes = t.0 } in
    let name = name_takes inside n.0 n.1 in
    let attrs = attrs_take (length n.0.1) n.0.1 a.0 a.1 in
    let after = take_while is_space a.0.1 in
    let text = flat_map attr_text attrs.written in
    subst (λ (y : StartTag). TakesStart inside y) {x = made} (some_is made x t.2) (record {
      written = record { name = n.0.0; attrs = attrs.written; after = after; closes = t.0 };
      is_start = record { name = name.name; attrs = attrs.are_attrs; after = run_passes is_space a.0.1 };
      parts = name.parts ∙ ap (λ (r : List ℕ). n.0.0 ++ r) (attrs.parts ∙ ap (λ (r : List ℕ). text ++ r) (run_split is_space a.0.1 ∙ ap (λ (r : List ℕ). after ++ r) (ending_takes (past is_space a.0.1) t.0 t.1)));
      start = ap (λ (bs : List Attr). record { name = n.0.0; attrs = bs; closes = t.0 }) attrs.attrs;
    })

pub record TakesEnd (inside name : List ℕ) : Type 0 where
  pub after : List ℕ
  pub is_end : IsEnd (record { name = name; after = after })
  pub parts : inside ≡ name ++ after

pub end_takes : (inside x : List ℕ) → end_in inside ≡ Some x → TakesEnd inside x
unfolding end_in
end_takes inside x e =
    let n = bind_some (name_at inside) (λ name. cond (is_nonempty (past is_space name.1)) None (Some name.0)) x e in
    let t = no_more (is_nonempty (past is_space n.0.1)) n.0.0 n.2 in
    let name = name_takes inside n.0 n.1 in
    let after = take_while is_space n.0.1 in
    subst (λ (y : List ℕ). TakesEnd inside y) (some_is n.0.0 x t.1) (record {
      after = after;
      is_end = record { name = name.name; after = run_passes is_space n.0.1 };
      parts = name.parts ∙ ap (λ (r : List ℕ). n.0.0 ++ r) (run_split is_space n.0.1 ∙ ap (λ (r : List ℕ). after ++ r) (empty_is (past is_space n.0.1) t.0) ∙ append-nil after);
    })
  where
    no_more : (b : Bool) (name : List ℕ) → cond b None (Some name) ≡ Some x → (b ≡ false) × (Some name ≡ Some x)
    no_more true name given = absurd cc
    no_more false name given = (refl, given)
