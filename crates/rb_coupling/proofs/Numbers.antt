-- Sweeps that put one number at each place of a list, from what stood there.
use Rattle.std.proofs.Common.{◌≡◌, ◌≢◌, ℕ, ◌+◌, ◌<◌, ◌≤◌, List, length, slice_set, Result, Ok, Err, refl, ap, sym, ◌∙◌, arith}
use Rattle.rb_result.specs.Steps.{◌>>=◌}
use Rattle.rb_num.specs.declared.interval.NumFault.{NumFault}
use Rattle.rb_num.specs.Interval.{Interval}
use Rattle.rb_sweep.specs.Sweep.{sweep, upward}
use Rattle.rb_sweep.proofs.SweepLaws.{in_upward}
use Rattle.rb_work.specs.declared.names.Name.{Name}
use Rattle.rb_work.specs.declared.names.RowFault.{RowFault}
use Rattle.rb_work.specs.declared.names.RowFault.TheVariants.{Size}
use Rattle.rb_work.specs.Names.{named_as}
use Rattle.rb_factor.specs.Sweeps.{number_at}
use Rattle.rb_factor.proofs.Refusals.{made, not_made}
use Rattle.rb_coupling.proofs.Cells.{number_same, number_other, long_put}
use Rattle.rb_coupling.proofs.Alone.{Apart, all_done, stopped}
use Rattle.rb_coupling.proofs.Lines.{keeps_over}

-- the number of c becomes out x, where x is the value of c and of what stood there
module _ (step : ℕ → List Interval → Result (List Interval) RowFault) (name : ℕ → Name) (value : ℕ → Interval → Result Interval NumFault) (out : Interval → Interval)
    (is : (c : ℕ) (s : List Interval) → step c s ≡ (named_as (name c) (value c (number_at s c)) >>= λ x. Ok (slice_set s c (out x)))) where
  put_told : (c : ℕ) (s t : List Interval) → step c s ≡ Ok t → (x : Interval) × (value c (number_at s c) ≡ Ok x) × (slice_set s c (out x) ≡ t)
  put_told c s t h = made (name c) (value c (number_at s c)) (λ x. slice_set s c (out x)) t (sym (is c s) ∙ h)

  put_failed : (c : ℕ) (s : List Interval) (e : RowFault) → step c s ≡ Err e → (f : NumFault) × (value c (number_at s c) ≡ Err f) × (Size (name c) ≡ e)
  put_failed c s e h = not_made (name c) (value c (number_at s c)) (λ x. slice_set s c (out x)) e (sym (is c s) ∙ h)

  put_other : (c d : ℕ) (s t : List Interval) → d ≢ c → step c s ≡ Ok t → number_at s d ≡ number_at t d
  put_other c d s t ne h = let p = put_told c s t h in sym (number_other s c (out p.0) d ne) ∙ ap (λ w. number_at w d) p.2

  put_long : (c : ℕ) (s t : List Interval) → step c s ≡ Ok t → length s ≡ length t
  put_long c s t h = let p = put_told c s t h in long_put s c (out p.0) ∙ ap (λ w. length w) p.2

  pub record Alike (c : ℕ) (s t : List Interval) : Type 0 where
    pub long : length s ≡ length t
    pub same : number_at s c ≡ number_at t c

  alike_none : (c : ℕ) (s : List Interval) → Alike c s s
  alike_none c s = record { long = refl; same = refl }

  alike_both : (c : ℕ) (s t u : List Interval) → Alike c s t → Alike c t u → Alike c s u
  alike_both c s t u h k = record { long = h.long ∙ k.long; same = h.same ∙ k.same }

  apart : (lo hi : ℕ) → Apart step Alike alike_none alike_both lo hi
  apart lo hi c d s t a b k l ne h = record { long = put_long d s t h; same = put_other d c s t ne h }

  module _ (n lo hi : ℕ) (most : hi ≤ n + 1) where
    pub swept : (s t : List Interval) → sweep step (upward lo hi) s ≡ Ok t → length s ≡ n + 1 → (c : ℕ) → lo ≤ c → c < hi
        → (x : Interval) × (value c (number_at s c) ≡ Ok x) × (number_at t c ≡ out x)
    swept s t h fit c low high =
        let d = all_done step Alike alike_none alike_both lo hi (apart lo hi) s t h c low high in
        let p = put_told c d.fine.before d.fine.behind d.fine.does in (
          p.0,
          ap (value c) d.fine.same.same ∙ p.1,
          sym d.stays.same ∙ ap (λ w. number_at w c) (sym p.2) ∙ number_same n d.fine.before c (out p.0) (omega arith) (sym d.fine.same.long ∙ fit),
        )

    pub swept_long : (s t : List Interval) → sweep step (upward lo hi) s ≡ Ok t → length s ≡ length t
    swept_long s t h =
        keeps_over step (λ s t. length s ≡ length t) (λ s. refl) (λ s t u h k. h ∙ k) (upward lo hi) (λ c u v m k. put_long c u v k) s t h

    pub swept_others : (s t : List Interval) → sweep step (upward lo hi) s ≡ Ok t → (c : ℕ) → c < lo → number_at s c ≡ number_at t c
    swept_others s t h c l =
        keeps_over step (λ s t. number_at s c ≡ number_at t c) (λ s. refl) (λ s t u h k. h ∙ k) (upward lo hi)
        (λ d u v m k. let range = in_upward lo hi d m in put_other d c u v (λ q. absurd (omega (arith, range.0))) k) s t h

    pub record NumberStop (s : List Interval) (e : RowFault) : Type 0 where
      pub at : ℕ
      pub low : lo ≤ at
      pub high : at < hi
      pub until : (c : ℕ) → lo ≤ c → c < at → (x : Interval) × (value c (number_at s c) ≡ Ok x)
      pub fault : NumFault
      pub refused : value at (number_at s at) ≡ Err fault
      pub named : e ≡ Size (name at)

    pub swept_refused : (s : List Interval) (e : RowFault) → sweep step (upward lo hi) s ≡ Err e → NumberStop s e
    swept_refused s e h =
        let d = stopped step Alike alike_none alike_both lo hi (apart lo hi) s e h in
        let p = put_failed d.at d.before e d.refused in
        record {
          at = d.at;
          low = d.low;
          high = d.high;
          until = λ c a b.
              let f = d.until c a b in
              let m = put_told c f.before f.behind f.does in
              (m.0, ap (value c) f.same.same ∙ m.1);
          fault = p.0;
          refused = ap (value d.at) d.same.same ∙ p.1;
          named = sym p.2;
        }
