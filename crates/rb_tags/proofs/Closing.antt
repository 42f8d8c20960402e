-- Where a tag closes.
use Rattle.std.proofs.Common.{◌≡◌, ℕ, suc, ◌+◌, ◌<◌, ◌≤◌, Bool, true, false, cond, List, [], ◌∷◌, length, drop, get_or, IsUtf8, IsCharBoundary, Option, Some, None, refl, sym, ap, subst, ◌∙◌, arith}
use Rattle.std.proofs.Math.Seq.{drop-cons}
use Rattle.std.proofs.lemmas.Bool.{eqb-true}
use Rattle.std.proofs.lemmas.List.{length-drop, nil_from_length}
use Rattle.std.proofs.lemmas.Str.{IsCharBoundary-before_ascii, IsCharBoundary-after_ascii}
use Rattle.rb_tags.specs.References.{◌>?=◌}
use Rattle.rb_tags.specs.Marks.{quote_after, ends_tag, closing_at}

-- so many bytes further on
abbrev pub further : ℕ → Option ℕ → Option ℕ
further k o = o >?= λ n. Some (k + n)

-- what is found in all the bytes is found in those that are left
pub record ClosesLater (bytes : List ℕ) (place : ℕ) (quote : Option ℕ) : Type 0 where
  pub same : closing_at None bytes ≡ further place (closing_at quote (drop place bytes))

pub further_none : (o : Option ℕ) → o ≡ further 0 o
further_none (Some n) = ap (λ (k : ℕ). Some k) (omega arith)
further_none None = refl

further_more : (k : ℕ) (o : Option ℕ) → further k (o >?= λ n. Some (suc n)) ≡ further (k + 1) o
further_more k (Some n) = ap (λ (m : ℕ). Some m) (omega arith)
further_more k None = refl

pub closes_begin : (bytes : List ℕ) → ClosesLater bytes 0 None
closes_begin bytes = record { same = further_none (closing_at None bytes) }

step : (quote : Option ℕ) (b : ℕ) (bs : List ℕ) → ends_tag quote b ≡ false → closing_at quote (b ∷ bs) ≡ (closing_at (quote_after quote b) bs >?= λ n. Some (suc n))
unfolding closing_at
step quote b bs h = rw h refl

stop : (quote : Option ℕ) (b : ℕ) (bs : List ℕ) → ends_tag quote b ≡ true → closing_at quote (b ∷ bs) ≡ Some 0
unfolding closing_at
stop quote b bs h = rw h refl

none : (quote : Option ℕ) → closing_at quote [] ≡ None
unfolding closing_at
none quote = refl

pub closes_more : (bytes : List ℕ) (place : ℕ) (quote : Option ℕ) → ClosesLater bytes place quote → place < length bytes → ends_tag quote (get_or bytes place 0) ≡ false → ClosesLater bytes (place + 1) (quote_after quote (get_or bytes place 0))
closes_more bytes place quote h lt goes_on =
    let b = get_or bytes place 0 in
    let next : suc place ≡ place + 1 = omega arith in
    let bs = drop (suc place) bytes in
    let here : closing_at quote (drop place bytes) ≡ (closing_at (quote_after quote b) bs >?= λ n. Some (suc n)) = ap (closing_at quote) (drop-cons bytes place 0 lt) ∙ step quote b bs goes_on in
    record {
      same = h.same ∙ ap (further place) here ∙ further_more place (closing_at (quote_after quote b) bs) ∙ ap (λ (k : ℕ). further (place + 1) (closing_at (quote_after quote b) (drop k bytes))) next;
    }

pub closes_here : (bytes : List ℕ) (place : ℕ) (quote : Option ℕ) → ClosesLater bytes place quote → place < length bytes → ends_tag quote (get_or bytes place 0) ≡ true → Some place ≡ closing_at None bytes
closes_here bytes place quote h lt ends =
    let here : closing_at quote (drop place bytes) ≡ Some 0 = ap (closing_at quote) (drop-cons bytes place 0 lt) ∙ stop quote (get_or bytes place 0) (drop (suc place) bytes) ends in
    let end : place + 0 ≡ place = omega arith in
    sym (h.same ∙ ap (further place) here ∙ ap (λ (k : ℕ). Some k) end)

drop_all : (place : ℕ) (bytes : List ℕ) → length bytes ≤ place → drop place bytes ≡ []
drop_all place bytes h = nil_from_length (drop place bytes) (omega (arith, length-drop place bytes))

pub closes_never : (bytes : List ℕ) (place : ℕ) (quote : Option ℕ) → ClosesLater bytes place quote → length bytes ≤ place → None ≡ closing_at None bytes
closes_never bytes place quote h end = sym (h.same ∙ ap (further place) (ap (closing_at quote) (drop_all place bytes end) ∙ none quote))

-- the closing byte is a >
pub record IsClosing (n : ℕ) (bytes : List ℕ) : Type 0 where
  pub within : n < length bytes
  pub closes : get_or bytes n 0 ≡ 62

ends_is : (quote : Option ℕ) (b : ℕ) → ends_tag quote b ≡ true → b ≡ 62
ends_is None b h = eqb-true b 62 h
ends_is (Some quote) b h = absurd cc

pub closing_is : (quote : Option ℕ) (bytes : List ℕ) (n : ℕ) → closing_at quote bytes ≡ Some n → IsClosing n bytes
unfolding closing_at
closing_is quote [] n e = absurd cc
closing_is quote (b ∷ bs) n e = by_test (ends_tag quote b) refl e (closing_is (quote_after quote b) bs)
  where
    later : (o : Option ℕ) → ((k : ℕ) → o ≡ Some k → IsClosing k bs) → (o >?= λ k. Some (suc k)) ≡ Some n → IsClosing n (b ∷ bs)
    later (Some k) inner given =
        let same : suc k ≡ n = cc in
        let is = inner k refl in
        let lt = is.within in
        subst (λ (m : ℕ). IsClosing m (b ∷ bs)) same (record { within = omega arith; closes = is.closes })
    later None inner given = absurd cc

    by_test : (t : Bool) → ends_tag quote b ≡ t → cond t (Some 0) (closing_at (quote_after quote b) bs >?= λ k. Some (suc k)) ≡ Some n → ((k : ℕ) → closing_at (quote_after quote b) bs ≡ Some k → IsClosing k bs) → IsClosing n (b ∷ bs)
    by_test true h given inner =
        let same : 0 ≡ n = cc in
        subst (λ (m : ℕ). IsClosing m (b ∷ bs)) same (record { within = omega arith; closes = ends_is quote b h })
    by_test false h given inner = later (closing_at (quote_after quote b) bs) inner given

pub closing_begins : (bytes : List ℕ) (n : ℕ) → closing_at None bytes ≡ Some n → IsCharBoundary bytes n
closing_begins bytes n e = let h = closing_is None bytes n e in IsCharBoundary-before_ascii bytes n h.within (omega (arith, h.closes))

pub closing_ends : (bytes : List ℕ) (n : ℕ) → IsUtf8 bytes → closing_at None bytes ≡ Some n → IsCharBoundary bytes (n + 1)
closing_ends bytes n u e = let h = closing_is None bytes n e in IsCharBoundary-after_ascii bytes n u h.within (omega (arith, h.closes))
