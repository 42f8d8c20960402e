-- The mass of all bodies, one after the other.
use Rattle.std.proofs.Common.{◌≡◌, ℕ, zero, suc, ◌+◌, ◌-◌, length, Option, None, Some, IsSomeAnd, Ok, Err, refl, sym, ap, ◌∙◌, subst, arith}
use Rattle.std.specs.Option.{option_map_or}
use Rattle.rb_frac.specs.Frac.{Frac, fracs}
use Rattle.rb_frac.specs.Ops.{sum}
use Rattle.rb_num.specs.Interval.{Interval, zero_interval}
use Rattle.rb_num.specs.Fraction.{LiesIn, EnclosesSum}
use Rattle.rb_num.specs.Refusing.{iv_add}
use Rattle.rb_num.specs.declared.interval.NumFault.{NumFault}
use Rattle.rb_num.proofs.Bridges.{zero_lies}
use Rattle.rb_body.specs.declared.raw.LinkRaw.{LinkRaw}
use Rattle.rb_sweep.specs.Sweep.{sweep, upward}
use Rattle.rb_sweep.proofs.SweepSteps.{sweep_next, sweep_refused, sweep_done}
use Rattle.rb_tree.specs.declared.robot.Body.{Body}
use Rattle.rb_tree.specs.Columns.{body_at}
use Rattle.rb_tree.specs.Robot.{Tree, HasBody}
use Rattle.outline.specs.Outline.{mass_at, add_mass, mass_of, EnclosesMasses}

found : (o : Option Body) (raw : LinkRaw) → IsSomeAnd o (λ body. body.link_raw ≡ raw) → option_map_or (λ (body : Body). body.link_raw.mass) o zero_interval ≡ raw.mass
found None raw h = absurd h
found (Some body) raw h = ap (λ (r : LinkRaw). r.mass) h

module _ (tree : Tree) where
  abbrev pub AreWithin : (ℕ → Frac) → Type 0
  AreWithin mass = (i : ℕ) → HasBody tree i → LiesIn (mass i) (mass_at tree.bodies i)

  -- the masses of the bodies before body i were summed
  pub record SoFar (i : ℕ) (total : Interval) : Type 0 where
    pub rest : sweep (add_mass tree.bodies) (upward i (length tree.bodies + 1)) total ≡ mass_of tree
    pub lies : (mass : ℕ → Frac) → AreWithin mass → LiesIn (sum fracs (i - 1) (λ k. mass (k + 1))) total

  pub begins : SoFar 1 zero_interval
  unfolding mass_of sum
  begins = record { rest = refl; lies = λ mass within. zero_lies }

  step : (i : ℕ) (raw : LinkRaw) (total : Interval) → IsSomeAnd (body_at tree.bodies i) (λ body. body.link_raw ≡ raw) → add_mass tree.bodies i total ≡ iv_add total raw.mass
  step i raw total h = ap (iv_add total) (found (body_at tree.bodies i) raw h)

  one_more : (n : ℕ) (mass : ℕ → Frac) (a b v : Interval) → EnclosesSum a b v → LiesIn (sum fracs n (λ k. mass (k + 1))) a → LiesIn (mass (n + 1)) b
      → LiesIn (sum fracs (suc n) (λ k. mass (k + 1))) v
  unfolding sum
  one_more n mass a b v h s m = h.at _ _ s m

  pub goes : (i : ℕ) (raw : LinkRaw) (total more : Interval) → HasBody tree i → IsSomeAnd (body_at tree.bodies i) (λ body. body.link_raw ≡ raw) → iv_add total raw.mass ≡ Ok more
      → EnclosesSum total raw.mass more → SoFar i total → SoFar (i + 1) more
  goes zero raw total more has is e encloses so = absurd (omega (arith, has.from))
  goes (suc n) raw total more has is e encloses so = record {
    rest = sym (sweep_next (add_mass tree.bodies) (suc n) (length tree.bodies + 1) total more (omega (arith, has.to)) (step (suc n) raw total is ∙ e)) ∙ so.rest;
    lies = λ mass within.
        let before : suc n - 1 ≡ n = omega arith in
        let behind : suc n + 1 - 1 ≡ suc n = omega arith in
        let number : suc n ≡ n + 1 = omega arith in
        let own : LiesIn (mass (suc n)) raw.mass = subst (LiesIn (mass (suc n))) (found (body_at tree.bodies (suc n)) raw is) (within (suc n) has) in
        let s : LiesIn (sum fracs n (λ k. mass (k + 1))) total = subst (λ (m : ℕ). LiesIn (sum fracs m (λ k. mass (k + 1))) total) before (so.lies mass within) in
        subst (λ (m : ℕ). LiesIn (sum fracs m (λ k. mass (k + 1))) more) (sym behind) (one_more n mass total raw.mass more encloses s (subst (λ (m : ℕ). LiesIn (mass m) raw.mass) number own));
  }

  pub stops : (i : ℕ) (raw : LinkRaw) (total : Interval) (why : NumFault) → HasBody tree i → IsSomeAnd (body_at tree.bodies i) (λ body. body.link_raw ≡ raw) → iv_add total raw.mass ≡ Err why
      → SoFar i total → mass_of tree ≡ Err why
  stops i raw total why has is e so =
      sym so.rest ∙ sweep_refused (add_mass tree.bodies) i (length tree.bodies + 1) total why (omega (arith, has.to)) (step i raw total is ∙ e)

  pub ends : (i : ℕ) (total : Interval) → i ≡ length tree.bodies + 1 → SoFar i total → mass_of tree ≡ Ok total
  ends i total e so = sym so.rest ∙ sweep_done (add_mass tree.bodies) i (length tree.bodies + 1) total (omega arith)

  pub encloses : (i : ℕ) (total : Interval) → i ≡ length tree.bodies + 1 → SoFar i total → EnclosesMasses tree total
  encloses i total e so mass within =
      let n : i - 1 ≡ length tree.bodies = omega arith in
      subst (λ (m : ℕ). LiesIn (sum fracs m (λ k. mass (k + 1))) total) n (so.lies mass within)
