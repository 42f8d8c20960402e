-- Rows without compliance: zero is added to an entry of their coupling, which changes nothing.
use Rattle.std.proofs.Common.{◌≡◌, ℕ, zero, suc, ◌≤◌, List, [], ◌∷◌, length, Ok, Err, ap, sym, ◌∙◌, subst, arith}
use Rattle.std.proofs.lemmas.Int.{ints}
use Rattle.std.specs.List.{All}
use Rattle.std.proofs.lemmas.List.{length_push}
use Rattle.rb_result.proofs.Results.{same_ok, not-both}
use Rattle.rb_num.specs.declared.interval.NumFault.TheVariants as N
use Rattle.rb_num.specs.Interval.{Interval, IsInterval, zero_interval}
use Rattle.rb_num.specs.Dot.{ProductsFit, least_product, greatest_product, int_sum_by, dot_of, iv_dot}
use Rattle.rb_num.specs.Refusing.{iv_add}
use Rattle.rb_num.specs.Sums.{AreBounded}
use Rattle.rb_num.proofs.Dots.{products_ordered}
use Rattle.rb_num.proofs.Adding.{rounded_ends}
use Rattle.rb_num.proofs.Refused.{is_ok}
use Rattle.rb_num.proofs.Zeros.{add-zero_right}
use Rattle.rb_coupling.specs.Steps.{pairs_of}
use Rattle.rb_coupling.specs.Couple.{IsEntryRefused, in_sum, in_compliance}
use Rattle.rb_coupling.specs.Laws.{ZeroIsRigid}

pub pairs_long : (a b : ℕ → Interval) (n : ℕ) → length (pairs_of a b n) ≡ n
unfolding pairs_of
pairs_long a b zero = omega arith
pairs_long a b (suc n) = let h : length (pairs_of a b n) ≡ n = pairs_long a b n in rw length_push (omega arith)

sums_bounded : (ps : List (Interval × Interval)) → All ProductsFit ps → length ps ≤ 64 → AreBounded (int_sum_by least_product ps) (int_sum_by greatest_product ps) (length ps)
sums_bounded [] f few = record { below = omega (arith, ints); ordered = omega (arith, ints); above = omega (arith, ints); few = omega arith }
sums_bounded (p ∷ ps) f few =
    let b = sums_bounded ps (λ k d l. f (suc k) d (omega arith)) (omega arith) in
    let o = products_ordered p (f 0 p (omega arith)) in
    let o1 = o.low in let o2 = o.ordered in let o3 = o.high in
    let b1 = b.below in let b2 = b.ordered in let b3 = b.above in
    record { below = omega (arith, ints); ordered = omega (arith, ints); above = omega (arith, ints); few = omega arith }

-- a sum of products is an interval
pub whole : (ps : List (Interval × Interval)) (v : Interval) → length ps ≤ 64 → iv_dot ps ≡ Ok v → IsInterval v.lo v.hi
unfolding dot_of
whole ps v few h =
    let k = is_ok ps v h in
    subst (λ (x : Interval). IsInterval x.lo x.hi) (sym k.1)
    (rounded_ends (int_sum_by least_product ps) (int_sum_by greatest_product ps) (length ps) (sums_bounded ps k.0.each few))

module _ (n : ℕ) (few : n ≤ 64) (a b : ℕ → Interval) where
  added : (t m : Interval) → m ≡ zero_interval → iv_dot (pairs_of a b n) ≡ Ok t → iv_add t m ≡ Ok t
  added t m e h =
      let long : length (pairs_of a b n) ≡ n = pairs_long a b n in
      ap (iv_add t) e ∙ add-zero_right t (whole (pairs_of a b n) t (omega arith) h)

-- an entry is refused for its sum alone
entries_told : (n : ℕ) → n ≤ 64 → (mu : ℕ → Interval) (Y Z : ℕ → ℕ → Interval) (q r : ℕ) → mu r ≡ zero_interval → IsEntryRefused n Y Z mu q r → iv_dot (pairs_of (Y r) (Z q) n) ≡ Err N.Size
entries_told n few mu Y Z q r e (in_sum h) = h
entries_told n few mu Y Z q r e (in_compliance alone same h k) = absurd (not-both (iv_add alone (mu r)) alone N.Size (added n few (Y r) (Z q) alone (mu r) e h) k)

pub zero_is_rigid : ZeroIsRigid
zero_is_rigid n up R L D J mu few none = record {
  rigid = λ Y l C h. record {
    left = h.left;
    Z = h.Z;
    G = h.G;
    table = h.table;
    reduced = h.reduced;
    coupled = record {
      pairs = h.coupled.pairs;
      own = λ r i.
          let same : h.alone r ≡ h.G r r = same_ok (h.alone r) (h.G r r) (sym (added n few (Y r) (h.Z r) (h.alone r) (mu r) (none r i) (h.coupled.own r i)) ∙ h.coupled.compliant r i) in
          subst (λ t. iv_dot (pairs_of (Y r) (h.Z r) n) ≡ Ok t) same (h.coupled.own r i);
    };
    eliminated = h.eliminated;
  };
  compliant = λ Y l C h. record {
    left = h.left;
    Z = h.Z;
    alone = λ r. h.G r r;
    G = h.G;
    table = h.table;
    reduced = h.reduced;
    coupled = record {
      pairs = h.coupled.pairs;
      own = h.coupled.own;
      compliant = λ r i. added n few (Y r) (h.Z r) (h.G r r) (mu r) (none r i) (h.coupled.own r i);
    };
    eliminated = h.eliminated;
  };
  entries = λ Y Z q r i f. entries_told n few mu Y Z q r (none r i) f;
}
