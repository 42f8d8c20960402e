-- A sweep that adds, step by step, what a sum adds.
use Rattle.std.proofs.Common.{◌≡◌, ℕ, zero, suc, ◌+◌, ◌<◌, Bool, true, false, if◌then◌else◌, ◌∷◌, Result, Ok, Err, refl, sym, subst, arith}
use Rattle.rb_result.specs.Steps.{◌>>=◌}
use Rattle.rb_sweep.specs.Sweep.{sweep, counting_up, counting_down}
use Rattle.rb_num.specs.declared.interval.NumFault.{NumFault}
use Rattle.rb_num.proofs.Relates.{Met}
use Rattle.rb_num.proofs.Bridges.{to_intervals}

-- exact values, with what they lie in, how they are added, and their sum f 0 + .. + f (n - 1)
pub record Sums {A B : Type 0} (lies : A → B → Type 0) : Type 1 where
  pub same : A → A → Type 0
  pub plus : A → A → A
  pub nul : A
  pub total : ℕ → (ℕ → A) → A
  pub itself : (x : A) → same x x
  pub back : (x y : A) → same x y → same y x
  pub along : (x y z : A) → same x y → same y z → same x z
  pub moved : (x y : A) (v : B) → same x y → lies x v → lies y v
  pub plus_same : (x y z t : A) → same x y → same z t → same (plus x z) (plus y t)
  pub plus_nul : (x : A) → same (plus x nul) x
  pub grouped : (x y z : A) → same (plus (plus x y) z) (plus x (plus y z))
  pub swapped : (x y z : A) → same (plus (plus x y) z) (plus x (plus z y))
  pub total_zero : (f : ℕ → A) → total 0 f ≡ nul
  pub total_suc : (n : ℕ) (f : ℕ → A) → total (suc n) f ≡ plus (total n f) (f n)

pub then_lies : {A B C D : Type 0} {r : A → B → Type 0} {s : C → D → Type 0} {m : A} {x : C} {n : Result B NumFault} {g : B → Result D NumFault}
    → Met to_intervals r m n → ((b : B) → r m b → Met to_intervals s x (g b)) → Met to_intervals s x (n >>= g)
then_lies {n = Ok b} h k = k b h.met
then_lies {n = Err e} h k = record { met = tt }

module _ {A B : Type 0} {lies : A → B → Type 0} (S : Sums lies) where
  -- the step adds h: where it answers, what lay in the value before lies, with h added, in the answer
  pub record Adds (h : A) (step : B → Result B NumFault) : Type 0 where
    pub at : (x : A) (v : B) → lies x v → Met to_intervals lies (S.plus x h) (step v)

  pub met_same : (x y : A) (r : Result B NumFault) → S.same x y → Met to_intervals lies x r → Met to_intervals lies y r
  met_same x y (Ok v) e h = record { met = S.moved x y v e h.met }
  met_same x y (Err f) e h = record { met = tt }

  -- ---- steps
  pub adds_same : (h k : A) (step : B → Result B NumFault) → S.same h k → Adds h step → Adds k step
  adds_same h k step e adds = record {
    at = λ x v l. met_same (S.plus x h) (S.plus x k) (step v) (S.plus_same x x h k (S.itself x) e) (adds.at x v l);
  }

  pub adds_nul : Adds S.nul (λ v. Ok v)
  adds_nul = record { at = λ x v l. record { met = S.moved x (S.plus x S.nul) v (S.back (S.plus x S.nul) x (S.plus_nul x)) l } }

  pub adds_if : (b : Bool) (h : A) (step : B → Result B NumFault) → (b ≡ true → Adds h step) → Adds (if b then h else S.nul) (λ v. if b then step v else Ok v)
  adds_if true h step k = k refl
  adds_if false h step k = adds_nul

  pub adds_then : (h k : A) (step next : B → Result B NumFault) → Adds h step → Adds k next → Adds (S.plus h k) (λ v. step v >>= next)
  adds_then h k step next first second = record {
    at = λ x v l. met_same (S.plus (S.plus x h) k) (S.plus x (S.plus h k)) (step v >>= next) (S.grouped x h k)
        (then_lies (first.at x v l) (λ w i. second.at (S.plus x h) w i));
  }

  -- ---- sweeps
  module _ (step : ℕ → B → Result B NumFault) (h : ℕ → A) where
    more_up : (lo i n : ℕ) → ((k : ℕ) → k < i + n → Adds (h k) (step (lo + k)))
        → (x : A) (v : B) → lies (S.plus x (S.total i h)) v → Met to_intervals lies (S.plus x (S.total (i + n) h)) (sweep step (counting_up (lo + i) n) v)
    more_up lo i zero adds x v l =
        let e : i ≡ i + 0 = omega arith in
        record { met = subst (λ (k : ℕ). lies (S.plus x (S.total k h)) v) e l }
    more_up lo i (suc n) adds x v l =
        let e : suc i + n ≡ i + suc n = omega arith in
        let e' : lo + suc i ≡ lo + i + 1 = omega arith in
        subst (λ (k : ℕ). Met to_intervals lies (S.plus x (S.total k h)) (sweep step (counting_up (lo + i) (suc n)) v)) e
        (subst (λ (k : ℕ). Met to_intervals lies (S.plus x (S.total (suc i + n) h)) (sweep step ((lo + i) ∷ counting_up k n) v)) e'
        (then_lies ((adds i (omega arith)).at (S.plus x (S.total i h)) v l) (λ w m.
        more_up lo (suc i) n (λ k b. adds k (omega arith)) x w
        (S.moved (S.plus (S.plus x (S.total i h)) (h i)) (S.plus x (S.total (suc i) h)) w
        (subst (λ (t : A). S.same (S.plus (S.plus x (S.total i h)) (h i)) (S.plus x t)) (sym (S.total_suc i h)) (S.grouped x (S.total i h) (h i))) m))))

    -- ascending
    pub adds_up : (lo n : ℕ) → ((k : ℕ) → k < n → Adds (h k) (step (lo + k))) → Adds (S.total n h) (λ v. sweep step (counting_up lo n) v)
    adds_up lo n adds = record {
      at = λ x v l.
          let e : lo + 0 ≡ lo = omega arith in
          let e' : 0 + n ≡ n = omega arith in
          subst (λ (k : ℕ). Met to_intervals lies (S.plus x (S.total n h)) (sweep step (counting_up k n) v)) e
          (subst (λ (k : ℕ). Met to_intervals lies (S.plus x (S.total k h)) (sweep step (counting_up (lo + 0) n) v)) e'
          (more_up lo 0 n (λ k b. adds k (omega arith)) x v
          (S.moved x (S.plus x (S.total 0 h)) v
          (subst (λ (t : A). S.same x (S.plus x t)) (sym (S.total_zero h)) (S.back (S.plus x S.nul) x (S.plus_nul x))) l)));
    }

    -- descending
    pub adds_down : (lo n : ℕ) → ((k : ℕ) → k < n → Adds (h k) (step (lo + k))) → Adds (S.total n h) (λ v. sweep step (counting_down lo n) v)
    adds_down lo zero adds = adds_same S.nul (S.total 0 h) (λ v. Ok v) (subst (λ (t : A). S.same S.nul t) (sym (S.total_zero h)) (S.itself S.nul)) adds_nul
    adds_down lo (suc n) adds = record {
      at = λ x v l.
          let rest : Adds (S.total n h) (λ w. sweep step (counting_down lo n) w) = adds_down lo n (λ k b. adds k (omega arith)) in
          met_same (S.plus (S.plus x (h n)) (S.total n h)) (S.plus x (S.total (suc n) h)) (step (lo + n) v >>= λ w. sweep step (counting_down lo n) w)
          (subst (λ (t : A). S.same (S.plus (S.plus x (h n)) (S.total n h)) (S.plus x t)) (sym (S.total_suc n h)) (S.swapped x (h n) (S.total n h)))
          (then_lies ((adds n (omega arith)).at x v l) (λ w m. rest.at (S.plus x (h n)) w m));
    }

  -- what is added before i is nothing
  pub total_late : (i n : ℕ) (h : ℕ → A) → ((k : ℕ) → k < i → S.same (h k) S.nul) → S.same (S.total n (λ k. h (i + k))) (S.total (i + n) h)
  total_late zero zero h early = let e : 0 + 0 ≡ 0 = omega arith in
      subst (λ (t : A). S.same t (S.total (0 + 0) h)) (sym (S.total_zero (λ k. h (0 + k)))) (subst (λ (t : A). S.same S.nul t) (sym (S.total_zero h)) (S.itself S.nul))
  total_late (suc i) zero h early =
      let before : S.same (S.total 0 (λ k. h (i + k))) (S.total (i + 0) h) = total_late i 0 h (λ k l. early k (omega arith)) in
      let e : suc (i + 0) ≡ suc i + 0 = omega arith in
      let e' : i + 0 ≡ i = omega arith in
      subst (λ (t : ℕ). S.same (S.total 0 (λ k. h (suc i + k))) (S.total t h)) e
      (subst (λ (t : A). S.same t (S.total (suc (i + 0)) h)) (sym (S.total_zero (λ k. h (suc i + k))))
      (subst (λ (t : A). S.same S.nul t) (sym (S.total_suc (i + 0) h))
      (S.along S.nul (S.plus S.nul S.nul) (S.plus (S.total (i + 0) h) (h (i + 0)))
      (S.back (S.plus S.nul S.nul) S.nul (S.plus_nul S.nul))
      (S.plus_same S.nul (S.total (i + 0) h) S.nul (h (i + 0))
      (subst (λ (t : A). S.same t (S.total (i + 0) h)) (S.total_zero (λ k. h (i + k))) before)
      (S.back (h (i + 0)) S.nul (early (i + 0) (omega arith)))))))
  total_late i (suc n) h early =
      let e : suc (i + n) ≡ i + suc n = omega arith in
      subst (λ (t : ℕ). S.same (S.total (suc n) (λ k. h (i + k))) (S.total t h)) e
      (subst (λ (t : A). S.same t (S.total (suc (i + n)) h)) (sym (S.total_suc n (λ k. h (i + k))))
      (subst (λ (t : A). S.same (S.plus (S.total n (λ k. h (i + k))) (h (i + n))) t) (sym (S.total_suc (i + n) h))
      (S.plus_same (S.total n (λ k. h (i + k))) (S.total (i + n) h) (h (i + n)) (h (i + n)) (total_late i n h early) (S.itself (h (i + n))))))
