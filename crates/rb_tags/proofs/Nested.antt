-- Tags stay nested while they are read.
use Rattle.std.proofs.Common.{◌≡◌, ◌⊎◌, inl, inr, ℕ, zero, suc, ◌+◌, ◌<◌, ◌≤◌, List, [], ◌∷◌, ◌++◌, length, reverse, slice_get, Some, Bool, true, false, cond, refl, sym, ap, ◌∙◌, arith}
use Rattle.std.proofs.lemmas.Option.{slice_get_within}
use Rattle.std.proofs.lemmas.List.{length-append, length-reverse}
use Rattle.std.specs.Prelude.{All}
use Rattle.std.proofs.lemmas.List.Elements.{All-push}
use Rattle.rb_tags.specs.declared.tag.Tag.{Tag}
use Rattle.rb_tags.specs.declared.marks.StartTag.{StartTag}
use Rattle.rb_tags.specs.Seen.{OpenElement, Seen, tag_of, with_tag}
use Rattle.rb_tags.specs.Kept.{AreNested, last_depth, IsReading}

-- an item of a list with one more is one of the list, or the last
at-more : {A : Type 0} (xs : List A) (x y : A) (i : ℕ) → slice_get (xs ++ x ∷ []) i ≡ Some y → (slice_get xs i ≡ Some y) ⊎ ((i ≡ length xs) × (x ≡ y))
at-more [] x y zero h = let same : x ≡ y = cc in inr (refl, same)
at-more [] x y (suc i) h = absurd cc
at-more (a ∷ xs) x y zero h = inl h
at-more (a ∷ xs) x y (suc i) h =
    elim (at-more xs x y i h) [
      | inl at ↦ inl at
      | inr last ↦ let n = last.0 in inr (omega arith, last.1)
    ]

last-at : (none : ℕ) (tags : List Tag) (i : ℕ) (tag : Tag) → slice_get tags i ≡ Some tag → i + 1 ≡ length tags → last_depth none tags ≡ tag.depth
last-at none [] i tag h e = absurd (omega arith)
last-at none (t ∷ []) zero tag h e = let same : t ≡ tag = cc in ap (λ (x : Tag). x.depth) same
last-at none (t ∷ u ∷ tags) zero tag h e = absurd (omega arith)
last-at none (t ∷ tags) (suc i) tag h e = last-at t.depth tags i tag h (omega arith)

last-none : (tags : List Tag) → 0 ≡ length tags → last_depth 0 tags ≡ 0
last-none [] e = refl
last-none (tag ∷ tags) e = absurd (omega arith)

last-more : (none : ℕ) (tags : List Tag) (tag : Tag) → last_depth none (tags ++ tag ∷ []) ≡ tag.depth
last-more none [] tag = refl
last-more none (t ∷ tags) tag = last-more t.depth tags tag

module _ (tags : List Tag) (tag : Tag) (open_count : ℕ) (h : IsReading open_count tags) (depth : tag.depth ≡ open_count + 1) (first : open_count ≡ 0 → length tags ≡ 0) where
  the-first : (root : Tag) → slice_get (tags ++ tag ∷ []) 0 ≡ Some root → root.depth ≡ 1
  the-first root e =
      elim (at-more tags tag root 0 e) [
        | inl at ↦ h.nested.first root at
        | inr last ↦ let none = last-none tags last.0 in let within = h.within in let same = ap (λ (x : Tag). x.depth) last.1 in omega arith
      ]

  insides : (i : ℕ) (other : Tag) → 0 < i → slice_get (tags ++ tag ∷ []) i ≡ Some other → 1 < other.depth
  insides i other some e =
      elim (at-more tags tag other i e) [
        | inl at ↦ h.nested.inside i other some at
        | inr last ↦
            let n = last.0 in
            let inner : open_count ≡ 0 → ⊥ = λ none. let empty = first none in omega arith in
            let same = ap (λ (x : Tag). x.depth) last.1 in
            omega arith
      ]

  stepwise : (i : ℕ) (one next : Tag) → slice_get (tags ++ tag ∷ []) i ≡ Some one → slice_get (tags ++ tag ∷ []) (i + 1) ≡ Some next → next.depth ≤ one.depth + 1
  stepwise i one next e f =
      elim (at-more tags tag one i e) [
        | inl at ↦ elim (at-more tags tag next (i + 1) f) [
          | inl behind ↦ h.nested.steps i one next at behind
          | inr last ↦
              let d = last-at 0 tags i one at last.0 in
              let within = h.within in
              let same = ap (λ (x : Tag). x.depth) last.1 in
              omega arith
        ]
        | inr end ↦ elim (at-more tags tag next (i + 1) f) [
          | inl behind ↦ let within = slice_get_within tags (i + 1) next behind in let n = end.0 in absurd (omega arith)
          | inr last ↦ let n = end.0 in let m = last.0 in absurd (omega arith)
        ]
      ]

  -- a start tag inside so many open elements, or the first
  pub reading-more : (all : List Tag) → all ≡ tags ++ tag ∷ [] → IsReading open_count all × IsReading (open_count + 1) all
  reading-more all e =
      let last = last-more 0 tags tag in
      let nested : AreNested (tags ++ tag ∷ []) = record { first = the-first; inside = insides; steps = stepwise } in
      rw e (record { nested = nested; within = omega arith }, record { nested = nested; within = omega arith })

pub reading-none : IsReading 0 []
reading-none = record {
  nested = record { first = λ root e. absurd cc; inside = λ i tag some e. absurd cc; steps = λ i one next e f. absurd cc };
  within = omega arith;
}

-- an element was closed
pub reading-less : (tags : List Tag) (open_count fewer : ℕ) → IsReading open_count tags → fewer ≤ open_count → IsReading fewer tags
reading-less tags n m h less = let within = h.within in record { nested = h.nested; within = omega arith }

-- a start tag was added, or there was no memory for it
pub reading-added : {A : Type 0} (opened : List A) (tags all : List Tag) (tag : Tag) (b : Bool) → IsReading (length opened) tags → tag.depth ≡ length opened + 1 → (length (reverse opened) ≡ 0 → length tags ≡ 0) → all ≡ cond b (tags ++ tag ∷ []) tags → IsReading (length opened) all
reading-added opened tags all tag true h depth first e =
    (reading-more tags tag (length opened) h depth (λ none. first (length-reverse opened ∙ none)) all e).0
reading-added opened tags all tag false h depth first e = rw e h

-- the element of the start tag that was added is open, or there was no memory for it
pub reading-entered : (seen : Seen) (place : ℕ) (start : StartTag) (tags : List Tag) (opened now : List OpenElement) (element : OpenElement) (b : Bool) → with_tag seen place start ≡ record { tags = tags; open_elements = reverse opened } → IsReading (length opened) tags → now ≡ cond b (opened ++ element ∷ []) opened → IsReading (length now) tags
reading-entered seen place start tags opened now element false same h e = rw e h
reading-entered seen place start tags opened now element true same h e =
    let tag : Tag = tag_of start place (length seen.open_elements + 1) in
    let tags_are : seen.tags ++ tag ∷ [] ≡ tags = ap (λ (s : Seen). s.tags) same in
    let count : length seen.open_elements ≡ length opened = ap (λ (s : Seen). length s.open_elements) same ∙ length-reverse opened in
    let last : last_depth 0 tags ≡ length seen.open_elements + 1 = ap (last_depth 0) (sym tags_are) ∙ last-more 0 seen.tags tag in
    let more : length now ≡ length opened + 1 = ap length e ∙ length-append opened (element ∷ []) in
    record { nested = h.nested; within = omega arith }

-- what holds of each tag holds of one more, or there was no memory for it
pub each-added : (P : Tag → Type 0) (tags all : List Tag) (tag : Tag) (b : Bool) → All P tags → P tag → all ≡ cond b (tags ++ tag ∷ []) tags → All P all
each-added P tags all tag false each h e = rw e each
each-added P tags all tag true each h e = rw e (All-push P tags tag each h)
