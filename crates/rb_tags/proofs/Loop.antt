-- Attributes that were read one after another.
use Rattle.std.proofs.Common.{◌≡◌, ℕ, zero, suc, ◌-◌, ◌<◌, ◌≤◌, true, false, List, [], ◌∷◌, ◌++◌, length, Option, Some, None, Ok, Err, refl, sym, ap, ◌∙◌, ◌⊎◌, inl, inr, append_assoc, arith}
use Rattle.std.proofs.lemmas.List.{append-nil}
use Rattle.rb_tags.specs.declared.read.TagKind.{TagKind}
use Rattle.rb_tags.specs.declared.read.TagKind.TheVariants.{BadMark, Memory}
use Rattle.rb_tags.specs.declared.tag.Attr.{Attr}
use Rattle.rb_tags.specs.References.{◌>?=◌}
use Rattle.rb_tags.specs.Bytes.{is_space, past}
use Rattle.rb_tags.specs.Marks.{attr_at, attr_follows, attrs_at}
use Rattle.rb_tags.proofs.Takes.{attr_shortens}
use Rattle.std.specs.Option.{ok_or}
use Rattle.rb_result.proofs.Results.{found-ok, found-err}

abbrev with_front : List Attr → Option (List Attr × List ℕ) → Option (List Attr × List ℕ)
with_front front read = read >?= λ x. Some (front ++ x.0, x.1)

-- what was read of the bytes so far, and what reading the rest gives
pub record AttrsSoFar (bytes : List ℕ) (front : List Attr) (rest : List ℕ) : Type 0 where
  pub left : ℕ
  pub enough : length rest ≤ left
  pub so_far : with_front front (attrs_at left rest) ≡ attrs_at (length bytes) bytes

front_none : (o : Option (List Attr × List ℕ)) → with_front [] o ≡ o
front_none (Some x) = refl
front_none None = refl

front_more : (front : List Attr) (a : Attr) (o : Option (List Attr × List ℕ)) → with_front front (o >?= λ others. Some (a ∷ others.0, others.1)) ≡ with_front (front ++ a ∷ []) o
front_more front a (Some x) = ap (λ (all : List Attr). Some (all, x.1)) (sym (append_assoc front (a ∷ []) x.0))
front_more front a None = refl

some_left : (bytes : List ℕ) → attr_follows bytes ≡ true → 0 < length bytes
unfolding attr_follows past
some_left [] h = absurd cc
some_left (b ∷ bs) h = omega arith

pub attrs_begin : (bytes : List ℕ) → AttrsSoFar bytes [] bytes
attrs_begin bytes = record { left = length bytes; enough = omega arith; so_far = front_none (attrs_at (length bytes) bytes) }

step : (n : ℕ) (rest : List ℕ) → attr_follows rest ≡ true → attrs_at (suc n) rest ≡ (attr_at (past is_space rest) >?= λ first. attrs_at n first.1 >?= λ others. Some (first.0 ∷ others.0, others.1))
unfolding attrs_at
step n rest h = rw h refl

pub attrs_more : (bytes : List ℕ) (front : List Attr) (rest : List ℕ) (a : Attr) (after : List ℕ) → AttrsSoFar bytes front rest → attr_follows rest ≡ true → attr_at (past is_space rest) ≡ Some (a, after) → AttrsSoFar bytes (front ++ a ∷ []) after
attrs_more bytes front rest a after h follows e =
    let shorter = attr_shortens rest (a, after) follows e in
    let some = some_left rest follows in
    let enough = h.enough in
    let n = h.left - 1 in
    let is : h.left ≡ suc n = omega arith in
    let one : with_front front (attrs_at h.left rest) ≡ with_front (front ++ a ∷ []) (attrs_at n after) =
    ap (λ (m : ℕ). with_front front (attrs_at m rest)) is ∙ rw (step n rest follows, e) (front_more front a (attrs_at n after)) in
    record { left = n; enough = omega arith; so_far = sym one ∙ h.so_far }

attrs_fail : (bytes : List ℕ) (front : List Attr) (rest : List ℕ) → AttrsSoFar bytes front rest → attr_follows rest ≡ true → attr_at (past is_space rest) ≡ None → attrs_at (length bytes) bytes ≡ None
attrs_fail bytes front rest h follows e =
    let some = some_left rest follows in
    let enough = h.enough in
    let n = h.left - 1 in
    let is : h.left ≡ suc n = omega arith in
    let one : with_front front (attrs_at h.left rest) ≡ None =
    ap (λ (m : ℕ). with_front front (attrs_at m rest)) is ∙ rw (step n rest follows, e) refl in
    sym h.so_far ∙ one

no_step : (n : ℕ) (rest : List ℕ) → attr_follows rest ≡ false → attrs_at n rest ≡ Some ([], rest)
unfolding attrs_at
no_step zero rest h = refl
no_step (suc n) rest h = rw h refl

pub attrs_end : (bytes : List ℕ) (front : List Attr) (rest : List ℕ) → AttrsSoFar bytes front rest → attr_follows rest ≡ false → attrs_at (length bytes) bytes ≡ Some (front, rest)
attrs_end bytes front rest h follows =
    let one : with_front front (attrs_at h.left rest) ≡ Some (front, rest) = rw (no_step h.left rest follows) (ap (λ (all : List Attr). Some (all, rest)) (append-nil front)) in
    sym h.so_far ∙ one

pub attrs_go_on : (bytes : List ℕ) (front : List Attr) (rest : List ℕ) (a : Attr) (after : List ℕ) → AttrsSoFar bytes front rest → attr_follows rest ≡ true → ok_or (attr_at (past is_space rest)) BadMark ≡ Ok (a, after) → AttrsSoFar bytes (front ++ a ∷ []) after
attrs_go_on bytes front rest a after h follows e = attrs_more bytes front rest a after h follows (found-ok (attr_at (past is_space rest)) BadMark (a, after) e)

pub attrs_shorten : (rest : List ℕ) (a : Attr) (after : List ℕ) → attr_follows rest ≡ true → ok_or (attr_at (past is_space rest)) BadMark ≡ Ok (a, after) → length after < length rest
attrs_shorten rest a after follows e = attr_shortens rest (a, after) follows (found-ok (attr_at (past is_space rest)) BadMark (a, after) e)

pub attrs_refused : (bytes : List ℕ) (front : List Attr) (rest : List ℕ) (kind : TagKind) → AttrsSoFar bytes front rest → attr_follows rest ≡ true → (kind ≡ Memory) ⊎ (ok_or (attr_at (past is_space rest)) BadMark ≡ Err kind) → (kind ≡ Memory) ⊎ (ok_or (attrs_at (length bytes) bytes) BadMark ≡ Err kind)
attrs_refused bytes front rest kind h follows (inl memory) = inl memory
attrs_refused bytes front rest kind h follows (inr fault) =
    let f = found-err (attr_at (past is_space rest)) BadMark kind fault in
    inr (rw (attrs_fail bytes front rest h follows f.1) (ap (λ (k : TagKind). Err k) f.0))

pub attrs_done : (bytes : List ℕ) (front : List Attr) (rest : List ℕ) → AttrsSoFar bytes front rest → attr_follows rest ≡ false → ok_or (attrs_at (length bytes) bytes) BadMark ≡ Ok (front, rest)
attrs_done bytes front rest h follows = rw (attrs_end bytes front rest h follows) refl
