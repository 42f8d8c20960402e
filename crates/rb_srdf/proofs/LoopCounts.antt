-- Where there is no loop, a row leads to more rows than each row that it holds.
use Rattle.std.proofs.Common.{◌≡◌, ◌<◌, ◌≤◌, ◌+◌, ℕ, Bool, true, false, List, [], ◌∷◌, ◌++◌, length, get_or, sym, subst, ap, refl, ◌∙◌, arith, inl, inr}
use Rattle.std.specs.Prelude.{nat_eq, slice_index}
use Rattle.std.specs.Cmp.{nat_eq_equiv}
use Rattle.std.specs.List.{Contains, IsDistinct}
use Rattle.std.proofs.lemmas.Bool.{cases_lt}
use Rattle.std.proofs.lemmas.List.{get_or_past, get_or_push, get_or_append_left, length_push}
use Rattle.std.proofs.lemmas.List.Elements.{Contains-push_cases, Contains-append_cases, Contains-get_or, recursion_from_All}
use Rattle.std.proofs.lemmas.Map.Made.{length-le_from_is_member}
use Rattle.std.proofs.lemmas.Map.Views.{Contains-from_any, list_any-from_Contains}
use Rattle.rb_srdf.specs.Loops.{RowHolds, LeadsTo, AreFalling}
use Rattle.rb_srdf.specs.Reached.{AreReached}
use Rattle.rb_srdf.proofs.LoopSearch.{same_number}
use Rattle.rb_srdf.proofs.LoopWays.{leads_once, leads_before, holder_within}

-- how many rows a row leads to
pub record IsCount (rows : List (List ℕ)) (k count : ℕ) : Type 0 where
  pub found : List ℕ
  pub reached : AreReached rows k found
  pub distinct : IsDistinct nat_eq found
  pub is : count ≡ length found

not_equal : (x y : ℕ) → (x ≡ y → ⊥) → nat_eq x y ≡ false
not_equal x y differ = by (nat_eq x y) refl
  where
    by : (b : Bool) → nat_eq x y ≡ b → b ≡ false
    by true e = absurd (differ (same_number x y e))
    by false e = refl

distinct_cons : (x : ℕ) (xs : List ℕ) → (Contains xs x → ⊥) → IsDistinct nat_eq xs → IsDistinct nat_eq (x ∷ xs)
unfolding IsDistinct
distinct_cons x xs absent distinct = (
  recursion_from_All (λ y. nat_eq x y ≡ false) xs
      (λ k d within. not_equal x (get_or xs k d) (λ same. absent (subst (Contains xs) (sym same) (Contains-get_or xs k d within)))),
  distinct,
)

module _ (rows : List (List ℕ)) (free : (k : ℕ) → LeadsTo rows k k → ⊥) (a b : ℕ) (named : RowHolds rows a b) where
  fewer : (above below : List ℕ) → AreReached rows a above → AreReached rows b below → IsDistinct nat_eq below → length below < length above
  fewer above below from_a from_b distinct =
      let all = distinct_cons b below (λ there. free b (from_b.sound b there)) distinct in
      let le : length (b ∷ below) ≤ length above = length-le_from_is_member nat_eq_equiv (b ∷ below) above all
      (λ q there. list_any-from_Contains nat_eq_equiv q above (elim (Contains-append_cases (b ∷ []) below q (Contains-from_any same_number q (b ∷ below) there)) [
        | inl first ↦ elim (Contains-push_cases [] b q first) [
          | inl none ↦ absurd (let w = none.1 in omega arith)
          | inr same ↦ from_a.complete q (subst (LeadsTo rows a) same (leads_once rows a b named))
        ]
        | inr more ↦ from_a.complete q (leads_before rows a b q named (from_b.sound q more))
      ])) in
      omega arith

  some : (above : List ℕ) → AreReached rows a above → 0 < length above
  some above from_a = let w = from_a.complete b (leads_once rows a b named) in let h = w.1 in omega arith

  pub fewer_count : (above below : ℕ) → IsCount rows a above → IsCount rows b below → below < above
  fewer_count above below of_a of_b =
      omega (arith, fewer of_a.found of_b.found of_a.reached of_b.reached of_b.distinct, of_a.is, of_b.is)

  pub some_count : (above : ℕ) → IsCount rows a above → 0 < above
  some_count above of_a = omega (arith, some of_a.found of_a.reached, of_a.is)

-- the counts of the first so many rows
pub record AreCounted (rows : List (List ℕ)) (n : ℕ) (counts : List ℕ) : Type 0 where
  pub long : length counts ≡ n
  pub each : (k : ℕ) → k < n → IsCount rows k (slice_index counts k)

pub counted_more : (rows : List (List ℕ)) (n : ℕ) (counts news found : List ℕ) (count : ℕ) → AreCounted rows n counts → news ≡ counts ++ count ∷ [] →
    AreReached rows n found → IsDistinct nat_eq found → count ≡ length found → AreCounted rows (n + 1) news
counted_more rows n counts news found count before e reached distinct is = record {
  long = omega (arith, ap (length {A = ℕ}) e, length_push counts count, before.long);
  each = λ k h. elim (cases_lt k n) [
    | inl early ↦
        let same : slice_index news k ≡ slice_index counts k =
        ap (λ (xs : List ℕ). slice_index xs k) e ∙ get_or_append_left counts (count ∷ []) 0 k (omega (arith, before.long)) in
        subst (IsCount rows k) (sym same) (before.each k early)
    | inr late ↦
        let last : n ≡ k = omega arith in
        let same : slice_index news n ≡ count = ap (λ (xs : List ℕ). slice_index xs n) e ∙ get_or_push counts count 0 n before.long in
        subst (λ j. IsCount rows j (slice_index news j)) last (record { found = found; reached = reached; distinct = distinct; is = same ∙ is })
  ];
}

pub counts_fall : (rows : List (List ℕ)) (counts : List ℕ) (n : ℕ) → length rows ≤ n → ((k : ℕ) → LeadsTo rows k k → ⊥) → AreCounted rows n counts → AreFalling rows counts
counts_fall rows counts n all free counted a b named =
    let of_a = counted.each a (omega (arith, holder_within rows a b named)) in
    elim (cases_lt b n) [
      | inl within ↦ fewer_count rows free a b named (slice_index counts a) (slice_index counts b) of_a (counted.each b within)
      | inr past ↦
          let none : slice_index counts b ≡ 0 = get_or_past counts b 0 (omega (arith, counted.long)) in
          omega (arith, none, some_count rows free a b named (slice_index counts a) of_a)
    ]
