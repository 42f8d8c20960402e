-- Rows in the order of levels that fall from each row to those that it holds.
use Rattle.std.proofs.Common.{◌≡◌, ◌<◌, ℕ, List, length, get_or, ap, ◌∙◌, arith, inl, inr, Some}
use Rattle.std.specs.Prelude.{slice_index}
use Rattle.std.specs.List.{All, Contains, range_with_len}
use Rattle.std.specs.List.Sorted.{IsPermutation, IsNonDecreasingBy}
use Rattle.std.proofs.lemmas.Bool.{cases_lt}
use Rattle.std.proofs.lemmas.List.{get_or_default}
use Rattle.std.proofs.lemmas.List.Sorted.{length_permutation, All-permutation, Contains-permutation}
use Rattle.std.proofs.lemmas.List.FromFn.{length-range_with_len, get_or-range_with_len}
use Rattle.std.proofs.lemmas.Option.{slice_get-get_or}
use Rattle.rb_srdf.specs.Groups.{IsBefore}
use Rattle.rb_srdf.specs.Loops.{RowHolds, AreFalling, IsRowOrder}
use Rattle.rb_srdf.proofs.LoopWays.{holder_within, no_loop}

in_range : (n k : ℕ) → k < n → Contains (range_with_len 0 n) k
in_range n k h = (k, omega (arith, length-range_with_len 0 n), get_or-range_with_len 0 n k k h ∙ omega arith)

range_below : (n : ℕ) → All (λ k. k < n) (range_with_len 0 n)
range_below n k d h =
    let within : k < n = omega (arith, length-range_with_len 0 n) in
    omega (arith, get_or-range_with_len 0 n k d within)

module _ (rows : List (List ℕ)) (levels order : List ℕ) (moved : IsPermutation (range_with_len 0 (length rows)) order)
    (sorted : IsNonDecreasingBy (slice_index levels) order) (falling : AreFalling rows levels) where
  has : (k : ℕ) → k < length rows → Contains order k
  has k h = Contains-permutation (range_with_len 0 (length rows)) order k moved (in_range (length rows) k h)

  before : (a b : ℕ) → RowHolds rows a b → b < length rows → IsBefore order b a
  before a b named there =
      let at_a = has a (holder_within rows a b named) in
      let at_b = has b there in
      let in_a : at_a.0 < length order = at_a.1 in
      let in_b : at_b.0 < length order = at_b.1 in
      let is_a : get_or order at_a.0 0 ≡ a = get_or_default order at_a.0 0 a in_a ∙ at_a.2 in
      let is_b : get_or order at_b.0 0 ≡ b = get_or_default order at_b.0 0 b in_b ∙ at_b.2 in
      record {
        first_at = at_b.0;
        second_at = at_a.0;
        first_is = slice_get-get_or order at_b.0 0 in_b ∙ ap Some is_b;
        second_is = slice_get-get_or order at_a.0 0 in_a ∙ ap Some is_a;
        before = elim (cases_lt at_b.0 at_a.0) [
          | inl less ↦ less
          | inr more ↦ absurd (omega (arith, sorted at_a.0 at_b.0 0 more in_b, falling a b named, ap (slice_index levels) is_a, ap (slice_index levels) is_b))
        ];
      }

  pub ordered : IsRowOrder rows order
  ordered = record {
    count = length_permutation (range_with_len 0 (length rows)) order moved ∙ length-range_with_len 0 (length rows);
    there = All-permutation (λ k. k < length rows) (range_with_len 0 (length rows)) order moved (range_below (length rows));
    all = has;
    held_first = before;
    no_loop = no_loop rows levels falling;
  }
