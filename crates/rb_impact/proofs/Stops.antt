-- Where rules in turn are refused first is determined by what they give.
use Rattle.std.proofs.Common.{◌≡◌, inl, inr, ℕ, ◌<◌, ◌≤◌, Result, Ok, Err, sym, ◌∙◌, subst, arith}
use Rattle.std.proofs.lemmas.Bool.{cases_lt}
use Rattle.rb_num.specs.Interval.{Interval}
use Rattle.rb_result.proofs.Results.{same_err, not-both}
use Rattle.rb_elimination.specs.Paths.{IsColumn}
use Rattle.rb_work.specs.declared.names.RowFault.{RowFault}

-- the first of n rules that is refused
pub record Stops (n : ℕ) (rule : ℕ → Result Interval RowFault) (e : RowFault) : Type 0 where
  pub place : ℕ
  pub there : IsColumn n place
  pub until : (i : ℕ) → 1 ≤ i → i < place → (v : Interval) × (rule i ≡ Ok v)
  pub refused : rule place ≡ Err e

module _ (n : ℕ) (rule rule' : ℕ → Result Interval RowFault) (same : (i : ℕ) → IsColumn n i → rule i ≡ rule' i) where
  -- where there is each value, none is refused
  pub none_stops : (v : ℕ → Interval) (e : RowFault) → ((i : ℕ) → IsColumn n i → rule i ≡ Ok (v i)) → Stops n rule' e → ⊥
  none_stops v e each s = not-both (rule s.place) (v s.place) e (each s.place s.there) (same s.place s.there ∙ s.refused)

  no_earlier : (d e : RowFault) (s : Stops n rule d) (t : Stops n rule' e) → s.place < t.place → ⊥
  no_earlier d e s t less =
      let v = t.until s.place s.there.from less in
      not-both (rule s.place) v.0 d (same s.place s.there ∙ v.1) s.refused

pub one_stop : (n : ℕ) (rule rule' : ℕ → Result Interval RowFault) → ((i : ℕ) → IsColumn n i → rule i ≡ rule' i) → (d e : RowFault) → Stops n rule d → Stops n rule' e → d ≡ e
one_stop n rule rule' same d e s t =
    elim (cases_lt s.place t.place) [
      | inl l ↦ absurd (no_earlier n rule rule' same d e s t l)
      | inr g ↦ elim (cases_lt t.place s.place) [
        | inl l ↦ absurd (no_earlier n rule' rule (λ i there. sym (same i there)) e d t s l)
        | inr h ↦
            let place : t.place ≡ s.place = omega arith in
            same_err {A = Interval} d e (sym s.refused ∙ same s.place s.there ∙ subst (λ (i : ℕ). rule' i ≡ Err e) place t.refused)
      ]
    ]
