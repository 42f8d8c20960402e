-- A list whose places a sweep fills one by one.
use Rattle.std.proofs.Common.{◌≡◌, ℕ, zero, suc, ◌+◌, ◌-◌, ◌<◌, ◌≤◌, inl, inr, List, length, get_or, slice_set, Result, Ok, sym, ap, ◌∙◌, subst, arith}
use Rattle.std.proofs.lemmas.List.{get_or-set_same, get_or-set_other, length-set}
use Rattle.std.proofs.lemmas.Bool.{cases_lt}
use Rattle.rb_result.specs.Steps.{◌>>=◌}
use Rattle.rb_result.proofs.Results.{same_ok, then-ok}
use Rattle.rb_sweep.specs.Sweep.{sweep, upward, counting_up}

-- one more item
abbrev pub fill : {A E : Type 0} → (ℕ → Result A E) → ℕ → List A → Result (List A) E
fill item k xs = item k >>= λ x. Ok (slice_set xs k x)

-- the list has so many places, of which the first n hold their items
record AreItems {A E : Type 0} (item : ℕ → Result A E) (d : A) (room n : ℕ) (xs : List A) : Type 0 where
  count : length xs ≡ room
  each : (k : ℕ) → k < n → item k ≡ Ok (get_or xs k d)

module _ {A E : Type 0} (item : ℕ → Result A E) (d : A) (room : ℕ) where
  one_more : (n : ℕ) (xs : List A) (x : A) → n < room → AreItems item d room n xs → item n ≡ Ok x → AreItems item d room (n + 1) (slice_set xs n x)
  one_more n xs x r h e = record {
    count = length-set xs n x ∙ h.count;
    each = λ k l. elim (cases_lt k n) [
      | inl lt ↦ h.each k lt ∙ ap Ok (sym (get_or-set_other xs n k x d (λ same. absurd (omega arith))))
      | inr ge ↦
          let same : n ≡ k = omega arith in
          subst (λ (m : ℕ). item m ≡ Ok (get_or (slice_set xs n x) m d)) same (e ∙ ap Ok (sym (get_or-set_same xs n x d (omega (arith, h.count)))))
    ];
  }

  filled_on : (n more : ℕ) (xs ys : List A) → n + more ≤ room → AreItems item d room n xs → sweep (fill item) (counting_up n more) xs ≡ Ok ys → AreItems item d room (n + more) ys
  filled_on n zero xs ys r h e =
      let same : n ≡ n + 0 = omega arith in
      subst (λ (m : ℕ). AreItems item d room m ys) same (subst (λ (zs : List A). AreItems item d room n zs) (same_ok {E = E} xs ys e) h)
  filled_on n (suc more) xs ys r h e =
      let first = then-ok (fill item n xs) (λ zs. sweep (fill item) (counting_up (n + 1) more) zs) ys e in
      let found = then-ok (item n) (λ x. Ok (slice_set xs n x)) first.0 first.1 in
      let next : AreItems item d room (n + 1) first.0 =
      subst (λ (zs : List A). AreItems item d room (n + 1) zs) (same_ok {E = E} (slice_set xs n found.0) first.0 found.2) (one_more n xs found.0 (omega arith) h found.1) in
      let same : n + 1 + more ≡ n + suc more = omega arith in
      subst (λ (m : ℕ). AreItems item d room m ys) same (filled_on (n + 1) more first.0 ys (omega arith) next first.2)

  -- each item that is asked for stands in its place
  pub filled : (n : ℕ) (xs ys : List A) → n ≤ room → length xs ≡ room → sweep (fill item) (upward 0 n) xs ≡ Ok ys → (k : ℕ) → k < n → item k ≡ Ok (get_or ys k d)
  unfolding upward
  filled n xs ys r h e k l =
      let start : AreItems item d room 0 xs = record { count = h; each = λ k l. absurd (omega arith) } in
      let done : AreItems item d room (0 + (n - 0)) ys = filled_on 0 (n - 0) xs ys (omega arith) start e in
      done.each k (omega arith)
