-- What the quotients by the pivots and the last step of a solution leave, and what is refused.
use Rattle.std.proofs.Common.{◌≡◌, ◌≢◌, ◌⊎◌, inl, inr, ℕ, zero, suc, ◌<◌, ◌≤◌, List, length, slice_set, Result, Ok, Err, refl, ap, sym, ◌∙◌, subst, arith}
use Rattle.std.proofs.lemmas.Bool.{cases_lt}
use Rattle.rb_num.specs.declared.interval.NumFault.{NumFault}
use Rattle.rb_num.specs.declared.interval.NumFault.TheVariants as N
use Rattle.rb_num.specs.Interval.{Interval, zero_interval, negative_of}
use Rattle.rb_num.specs.Refusing.{iv_div}
use Rattle.rb_num.specs.Quotient.{HasZero}
use Rattle.rb_work.specs.declared.names.NameKind.TheVariants as K
use Rattle.rb_work.specs.declared.names.RowFault.{RowFault}
use Rattle.rb_work.specs.declared.names.RowFault.TheVariants.{Size}
use Rattle.rb_work.specs.Names.{one}
use Rattle.rb_work.specs.Path.{above, Ascends}
use Rattle.rb_elimination.specs.Paths.{IsColumn, IsAncestor}
use Rattle.rb_elimination.specs.Solving.{IsDivided, IsSubstituted}
use Rattle.rb_factor.specs.Steps.{lessened, interval_steps, AreDivisors}
use Rattle.rb_factor.specs.Solve.{IsDivideRefused, IsSubstituteRefused}
use Rattle.rb_factor.specs.Sweeps.{entry_at, number_at, divide_step, divide_of, part_step, part_of, substitute_step, substitute_of}
use Rattle.rb_factor.proofs.Refusals.{product_size, quotient_size, made, not_made}
use Rattle.rb_factor.proofs.Entries.{Holds, number_same, number_other, number_holds}
use Rattle.rb_factor.proofs.Paths.{listed_ancestor, ancestor_listed, ancestor_less}
use Rattle.rb_factor.proofs.Traces.{Ascent, rises, steady, ascent_holds}
use Rattle.rb_factor.proofs.Traces as T
use Rattle.rb_factor.proofs.PathSweeps.{Climb, climbs}
use Rattle.rb_factor.proofs.PathSweeps as W

-- ---- a sweep upward that puts one number at each column
module _ (up : List ℕ) (ascends : Ascends up) (step : ℕ → List Interval → Result (List Interval) RowFault) (value : ℕ → List Interval → Result Interval NumFault)
    (puts : (c : ℕ) (s t : List Interval) → step c s ≡ Ok t → (x : Interval) × (value c s ≡ Ok x) × (slice_set s c x ≡ t)) where
  module _ (n : ℕ) (most : n ≤ length up) (s t : List Interval) (a : Ascent step n s t) (fit : Holds up s) where
    stays : (c b : ℕ) (u v : List Interval) → b ≢ c → step c u ≡ Ok v → number_at u b ≡ number_at v b
    stays c b u v ne h = let p = puts c u v h in subst (λ w. number_at u b ≡ number_at w b) p.2 (sym (number_other up ascends u c p.0 b ne))

    holds_at : (c : ℕ) → c ≤ n → Holds up (a.at c)
    holds_at c high =
        ascent_holds step (Holds up) n s t a fit
        (λ c u v high f h. let p = puts (suc c) u v h in subst (λ w. Holds up w) p.2 (number_holds up ascends u (suc c) p.0 f)) c high

    -- a number stays once it is found
    pub later : (d c : ℕ) → d ≤ c → c ≤ n → number_at (a.at c) d ≡ number_at t d
    later d c low high =
        steady (λ m. number_at (a.at m) d) c n high (λ m l h. stays (suc m) d (a.at m) (a.at (suc m)) (λ q. absurd (omega (arith, q, l, low))) (a.each m h))
        ∙ ap (λ u. number_at u d) a.last

    pub value_at : (c : ℕ) → c < n → value (suc c) (a.at c) ≡ Ok (number_at t (suc c))
    value_at c l =
        let p = puts (suc c) (a.at c) (a.at (suc c)) (a.each c l) in
        let ok : Interval → Result Interval NumFault = λ x. Ok x in
        let put : number_at (a.at (suc c)) (suc c) ≡ p.0 =
        subst (λ u. number_at u (suc c) ≡ p.0) p.2 (number_same up ascends (a.at c) (suc c) p.0 (omega arith) (holds_at c (omega arith))) in
        p.1 ∙ ap ok (sym put ∙ later (suc c) (suc c) (omega arith) l)

column_from : (P : ℕ → Type 0) (n : ℕ) → ((c : ℕ) → c < n → P (suc c)) → (c : ℕ) → IsColumn n c → P c
column_from P n h zero i = absurd (omega (arith, i.from))
column_from P n h (suc c) i = h c (omega (arith, i.to))

module _ (up : List ℕ) (ascends : Ascends up) (table : List Interval) where
  -- ---- quotients
  module _ (numbers : List Interval) where
    abbrev quotient_at : ℕ → Result Interval NumFault
    quotient_at c = iv_div (number_at numbers c) (entry_at up table c c)

    divide_puts : (c : ℕ) (s t : List Interval) → divide_step up table numbers c s ≡ Ok t → (x : Interval) × (quotient_at c ≡ Ok x) × (slice_set s c x ≡ t)
    unfolding divide_step
    divide_puts c s t h = made (one K.z c) (quotient_at c) (λ q. slice_set s c q) t h

    not_divided : (c : ℕ) (s : List Interval) (e : RowFault) → ¬ HasZero (entry_at up table c c) → divide_step up table numbers c s ≡ Err e
        → (quotient_at c ≡ Err N.Size) × (Size (one K.z c) ≡ e)
    unfolding divide_step
    not_divided c s e n h =
        let p = not_made (one K.z c) (quotient_at c) (λ q. slice_set s c q) e h in
        (quotient_size (number_at numbers c) (entry_at up table c c) p.0 n p.1, p.2)

    pub divided : (s t : List Interval) → divide_of up table numbers s ≡ Ok t → Holds up s
        → IsDivided interval_steps (length up) (above up) (λ c. entry_at up table c c) (number_at numbers) (number_at t)
    divided s t h fit =
        let a : Ascent (divide_step up table numbers) (length up) s t = rises (divide_step up table numbers) (length up) s t h in
        column_from (λ c. quotient_at c ≡ Ok (number_at t c)) (length up)
        (λ c l. value_at up ascends (divide_step up table numbers) (λ c u. quotient_at c) divide_puts (length up) (omega arith) s t a fit c l)

    pub division_refused : (s : List Interval) (e : RowFault) → divide_of up table numbers s ≡ Err e → AreDivisors (length up) (λ c. entry_at up table c c)
        → IsDivideRefused (length up) (λ c. entry_at up table c c) (number_at numbers) e
    division_refused s e h divisors =
        let q : T.Halt (divide_step up table numbers) (length up) s e = T.halts (divide_step up table numbers) (length up) s e h in
        let l : q.before < length up = q.less in
        let here : IsColumn (length up) (suc q.before) = record { from = omega arith; to = omega arith } in
        let r = not_divided (suc q.before) q.reached e (divisors (suc q.before) here) q.refused in
        record {
          column = suc q.before;
          there = here;
          until = λ c from less. column_from (λ c. (z : Interval) × (quotient_at c ≡ Ok z)) q.before
              (λ c m. let p = divide_puts (suc c) (q.until.at c) (q.until.at (suc c)) (q.until.each c m) in (p.0, p.1)) c (record { from = from; to = omega arith });
          refused = r.0;
          named = sym r.1;
        }

  -- ---- the last step
  module _ (quotients : List Interval) where
    -- what is left of the quotient of c, ancestor by ancestor
    record Chain (x : ℕ → Interval) (c : ℕ) (own : ℕ → Interval) : Type 0 where
      first : own (above up c) ≡ number_at quotients c
      result : x c ≡ own 0
      updates : (d : ℕ) → IsAncestor (above up) c d → lessened (own d) (entry_at up table c d) (x d) ≡ Ok (own (above up d))

    substitute_puts : (c : ℕ) (s t : List Interval) → substitute_step up table quotients c s ≡ Ok t
        → (x : Interval) × (part_of up table quotients s c ≡ Ok x) × (slice_set s c x ≡ t)
    unfolding substitute_step
    substitute_puts c s t h = made (one K.x c) (part_of up table quotients s c) (λ x. slice_set s c x) t h

    not_substituted : (c : ℕ) (s : List Interval) (e : RowFault) → substitute_step up table quotients c s ≡ Err e
        → (f : NumFault) × (part_of up table quotients s c ≡ Err f) × (Size (one K.x c) ≡ e)
    unfolding substitute_step
    not_substituted c s e h = not_made (one K.x c) (part_of up table quotients s c) (λ x. slice_set s c x) e h

    part_step_is : (numbers : List Interval) (c d : ℕ) (part : Interval) → part_step up table numbers c d part ≡ lessened part (entry_at up table c d) (number_at numbers d)
    unfolding part_step
    part_step_is numbers c d part = refl

    part_done : (numbers : List Interval) (c d : ℕ) (part left : Interval) → part_step up table numbers c d part ≡ Ok left
        → lessened part (entry_at up table c d) (number_at numbers d) ≡ Ok left
    part_done numbers c d part left h = sym (part_step_is numbers c d part) ∙ h

    part_refused : (numbers : List Interval) (c d : ℕ) (part : Interval) (f : NumFault) → part_step up table numbers c d part ≡ Err f
        → lessened part (entry_at up table c d) (number_at numbers d) ≡ Err N.Size
    part_refused numbers c d part f h =
        product_size part (negative_of (entry_at up table c d)) (number_at numbers d) f (sym (part_step_is numbers c d part) ∙ h)

    module _ (n : ℕ) (most : n ≤ length up) (s t : List Interval) (a : Ascent (substitute_step up table quotients) n s t) (fit : Holds up s) where
      chain : (c : ℕ) → c < n → (own : ℕ → Interval) × Chain (number_at t) (suc c) own
      chain c l =
          let from : 1 ≤ suc c = omega arith in
          let value = value_at up ascends (substitute_step up table quotients) (λ c u. part_of up table quotients u c) substitute_puts n most s t a fit c l in
          let k : Climb up ascends (part_step up table (a.at c) (suc c)) (above up (suc c)) (number_at quotients (suc c)) (number_at t (suc c)) =
          climbs up ascends (part_step up table (a.at c) (suc c)) (above up (suc c)) (number_at quotients (suc c)) (number_at t (suc c)) value in (
            k.at,
            record {
              first = k.first;
              result = sym k.last;
              updates = λ d i.
                  let less : d < suc c = ancestor_less up ascends (suc c) d from i in
                  ap (λ x. lessened (k.at d) (entry_at up table (suc c) d) x)
                  (sym (later up ascends (substitute_step up table quotients) (λ c u. part_of up table quotients u c) substitute_puts n most s t a fit d c (omega arith) (omega arith)))
                  ∙ part_done (a.at c) (suc c) d (k.at d) (k.at (above up d)) (k.each d (listed_ancestor up ascends (suc c) d from i));
            },
          )

      abbrev own_of : (c : ℕ) → (c < n) ⊎ (n ≤ c) → ℕ → Interval
      own_of c (inl l) d = (chain c l).0 d
      own_of c (inr g) d = zero_interval

      abbrev part : ℕ → ℕ → Interval
      part zero d = zero_interval
      part (suc c) d = own_of c (cases_lt c n) d

      part_chain : (c : ℕ) → c < n → Chain (number_at t) (suc c) (part (suc c))
      part_chain c l = go (cases_lt c n)
        where
          go : (r : (c < n) ⊎ (n ≤ c)) → Chain (number_at t) (suc c) (own_of c r)
          go (inl m) = (chain c m).1
          go (inr g) = absurd (omega arith)

      pub substituted_to : (part : ℕ → ℕ → Interval) × IsSubstituted interval_steps n (above up) (entry_at up table) (number_at quotients) part (number_at t)
      substituted_to =
          let each : (c : ℕ) → IsColumn n c → Chain (number_at t) c (part c) = column_from (λ c. Chain (number_at t) c (part c)) n part_chain in (
            part,
            record {
              first = λ c i. (each c i).first;
              result = λ c i. (each c i).result;
              updates = λ c d i a. (each c i).updates d a;
            },
          )

    pub substituted : (s t : List Interval) → substitute_of up table quotients s ≡ Ok t → Holds up s
        → (part : ℕ → ℕ → Interval) × IsSubstituted interval_steps (length up) (above up) (entry_at up table) (number_at quotients) part (number_at t)
    substituted s t h fit = substituted_to (length up) (omega arith) s t (rises (substitute_step up table quotients) (length up) s t h) fit

    pub substitution_refused : (s : List Interval) (e : RowFault) → substitute_of up table quotients s ≡ Err e → Holds up s
        → IsSubstituteRefused (length up) (above up) (entry_at up table) (number_at quotients) e
    substitution_refused s e h fit =
        let q : T.Halt (substitute_step up table quotients) (length up) s e = T.halts (substitute_step up table quotients) (length up) s e h in
        let l : q.before < length up = q.less in
        let from : 1 ≤ suc q.before = omega arith in
        let found = substituted_to q.before (omega arith) s q.reached q.until fit in
        let r = not_substituted (suc q.before) q.reached e q.refused in
        let w : W.Halt up ascends (part_step up table q.reached (suc q.before)) (above up (suc q.before)) (number_at quotients (suc q.before)) r.0 =
        W.halts up ascends (part_step up table q.reached (suc q.before)) (above up (suc q.before)) (number_at quotients (suc q.before)) r.0 r.1 in
        record {
          found = q.before;
          fewer = l;
          part = found.0;
          x = number_at q.reached;
          until = found.1;
          own = w.at;
          first = w.first;
          ancestor = w.stop;
          is_ancestor = ancestor_listed up ascends (suc q.before) w.stop from w.on;
          nearer = λ b i m.
              part_done q.reached (suc q.before) b (w.at b) (w.at (above up b)) (w.nearer b (listed_ancestor up ascends (suc q.before) b from i) m);
          refused = part_refused q.reached (suc q.before) w.stop (w.at w.stop) r.0 w.refused;
          named = sym r.2;
        }
