-- The values of an impact, and what is refused first, from those of its parts.
use Rattle.std.proofs.Common.{◌≡◌, ℕ, zero, suc, ◌≤◌, List, length, replicate, take, refl, sym, ap, ◌∙◌, subst}
use Rattle.std.proofs.lemmas.List.{length-replicate, take-replicate}
use Rattle.std.specs.Prelude.{slice_index_or}
use Rattle.rb_num.specs.Interval.{Interval, zero_interval}
use Rattle.rb_flat.specs.Contact.{Constraints}
use Rattle.rb_work.specs.declared.names.RowFault.{RowFault}
use Rattle.rb_work.specs.Path.{above}
use Rattle.rb_work.specs.View.{View, extent_of, columns_of, L_at, D_at, J_at}
use Rattle.rb_tree.specs.Robot.{Tree}
use Rattle.rb_tree.specs.State.{Row}
use Rattle.rb_tree.specs.Places.{IsFor, ArePlaces}
use Rattle.rb_mass.specs.Mass.{AreMass}
use Rattle.rb_bordered.specs.Steps.{IsRow}
use Rattle.rb_factor.specs.Factor.{HoldsDivisors, HoldsFactors}
use Rattle.rb_factor.specs.Solve.{HoldsDivided, HoldsSubstituted, RefusesSubstitute}
use Rattle.rb_constraint.specs.Rows.{AreRows}
use Rattle.rb_coupling.specs.Steps.{of_row}
use Rattle.rb_coupling.specs.Couple.{HoldsCoupling, HoldsRowDivisors, IsCoupleRefused, RefusesCouple}
use Rattle.rb_coupling.specs.Forces.{HoldsRowForces}
use Rattle.rb_contact.proofs.Assembled.{room_same}
use Rattle.rb_contact.proofs.Constrained.{couple_refused_from, coupling_from}
use Rattle.rb_impact.specs.Sides.{e_rule, AreSides}
use Rattle.rb_impact.specs.Pushes.{ArePushes}
use Rattle.rb_impact.specs.Speeds.{AreSpeeds}
use Rattle.rb_impact.specs.Impact.{rigid, AreFactored, AreMet, AreStruck, AreChanged, AreImpact, IsImpactRefused}
use Rattle.rb_impact.proofs.Stays.{places_stay, factored_stays, rows_stay, met_stays, struck_stays, pushes_stay, changed_stays}

-- ---- rows that do not give way, as a list
abbrev pub rigid_rows : ℕ → List Interval
rigid_rows n = take n (replicate 64 zero_interval)

pub rigid_long : (n : ℕ) → n ≤ 64 → length (take n (replicate 64 zero_interval)) ≡ n
rigid_long n few = ap length (take-replicate n 64 zero_interval few) ∙ length-replicate n zero_interval

nothing_at : (n m k : ℕ) → slice_index_or (take n (replicate m zero_interval)) k zero_interval ≡ zero_interval
nothing_at zero m k = refl
nothing_at (suc n) zero k = refl
nothing_at (suc n) (suc m) zero = refl
nothing_at (suc n) (suc m) (suc k) = nothing_at n m k

pub rigid_gives : (rows n i : ℕ) → IsRow rows i → of_row (take n (replicate 64 zero_interval)) i ≡ zero_interval
rigid_gives rows n zero there = refl
rigid_gives rows n (suc i) there = nothing_at n 64 i

module _ (tree : Tree) (row : Row) where
  pub factored_from : (m n : View) → IsFor tree m → ArePlaces tree row m → AreMass tree m → n ≡ record m { packed = n.packed } → HoldsFactors m n → AreFactored tree row n
  factored_from m n room places mass e factors = record {
    room = room_same tree m n (ap extent_of e) room;
    places = subst (λ (v : View). ArePlaces tree row v) (sym e) (places_stay tree row m n.packed places);
    mass = m.packed;
    table = subst (λ (v : View). AreMass tree (record v { packed = m.packed })) (sym e) mass;
    factors = subst (λ (v : View). HoldsFactors (record v { packed = m.packed }) v) (sym e) (subst (λ (v : View). HoldsFactors m v) e factors);
  }

  pub tabled_from : (f r : View) → AreFactored tree row f → r ≡ record f { O = r.O; K = r.K; J = r.J } → AreFactored tree row r
  tabled_from f r h e = subst (λ (v : View). AreFactored tree row v) (sym e) (factored_stays tree row f (record f { O = r.O; K = r.K; J = r.J }) h)

module _ (tree : Tree) (row : Row) (k : Constraints Interval) where
  -- ---- the coupling, behind the work r
  pub couple_refused : (r : View) (mus : List Interval) (e : RowFault) → AreFactored tree row r → AreRows tree k r → length mus ≡ k.rows → ((i : ℕ) → IsRow k.rows i → of_row mus i ≡ rigid i)
      → RefusesCouple r mus e → IsImpactRefused tree row k e
  couple_refused r mus e h rows count none refused =
      IsImpactRefused.in_coupling r h rows
      (couple_refused_from (columns_of r) (above r.up) k.rows (of_row mus) rigid none (L_at r) (D_at r) (J_at r) e
      (subst (λ (R : ℕ). IsCoupleRefused (columns_of r) (above r.up) R (L_at r) (D_at r) (J_at r) (of_row mus) e) count refused))

  pub met_from : (r n : View) (mus : List Interval) → AreFactored tree row r → AreRows tree k r → length mus ≡ k.rows → ((i : ℕ) → IsRow k.rows i → of_row mus i ≡ rigid i)
      → n ≡ record r { Y = n.Y; Z = n.Z; pairs = n.pairs } → HoldsCoupling (length mus) r n (of_row mus) → AreMet tree row k n
  met_from r n mus h rows count none e coupling =
      let d : View = record r { Y = n.Y; Z = n.Z; pairs = n.pairs } in
      let held : HoldsCoupling k.rows r n (of_row mus) = subst (λ (R : ℕ). HoldsCoupling R r n (of_row mus)) count coupling in
      subst (λ (v : View). AreMet tree row k v) (sym e)
      (record {
        factored = factored_stays tree row r d h;
        rows = rows_stay tree k r d rows;
        coupling = coupling_from k.rows r n.Y n.Z n.pairs (of_row mus) rigid none (subst (λ (v : View). HoldsCoupling k.rows r v (of_row mus)) e held);
      })

  -- ---- the impulses, behind the work m
  pub sided_from : (m s : View) → AreMet tree row k m → s ≡ record m { e = s.e } → AreMet tree row k s
  sided_from m s h e = subst (λ (v : View). AreMet tree row k v) (sym e) (met_stays tree row k m (record m { e = s.e }) h)

  pub row_divisors : (s : View) → AreMet tree row k s → HoldsRowDivisors k.rows s
  row_divisors s h = h.coupling.divisors

  gains_at : (s : View) (e lam : List Interval) → AreSides row k s → AreSides row k (record s { e = s.e; lam = lam })
  unfolding e_rule
  gains_at s e lam h = record { each_e = h.each_e }

  struck_at : (s : View) (e lam : List Interval) → AreMet tree row k s → AreSides row k s → HoldsRowForces k.rows s (record s { e = e; lam = lam })
      → AreStruck tree row k (record s { e = e; lam = lam })
  struck_at s e lam h sides f = record {
    met = met_stays tree row k s (record s { e = e; lam = lam }) h;
    sides = s.e;
    gains = gains_at s e lam sides;
    impulses = record {
      left = f.left;
      reduced = f.reduced;
      divided = f.divided;
      part = f.part;
      right_reduced = f.right_reduced;
      right_divided = f.right_divided;
      forces = f.forces;
      kept = f.kept;
    };
  }

  pub struck_from : (s f : View) → AreMet tree row k s → AreSides row k s → f ≡ record s { e = f.e; lam = f.lam } → HoldsRowForces k.rows s f → AreStruck tree row k f
  struck_from s f h sides e forces =
      subst (λ (v : View). AreStruck tree row k v) (sym e) (struck_at s f.e f.lam h sides (subst (λ (v : View). HoldsRowForces k.rows s v) e forces))

  -- ---- the changes, behind the work f
  pub pushed_from : (f p : View) → AreStruck tree row k f → p ≡ record f { w = p.w } → AreStruck tree row k p
  pushed_from f p h e = subst (λ (v : View). AreStruck tree row k v) (sym e) (struck_stays tree row k f (record f { w = p.w }) h)

  pub divisors : (p : View) → AreStruck tree row k p → HoldsDivisors p
  divisors p h = h.met.factored.factors.divisors

  -- the quotients are there
  pub record AreDivided (d : View) : Type 0 where
    pub struck : AreStruck tree row k d
    pub pushes : ArePushes tree k d
    pub divided : HoldsDivided d d

  divided_at : (p : View) (z : List Interval) → AreStruck tree row k p → ArePushes tree k p → HoldsDivided p (record p { z = z }) → AreDivided (record p { z = z })
  divided_at p z h pushes divided = record {
    struck = struck_stays tree row k p (record p { z = z }) h;
    pushes = pushes_stay tree k p z p.x p.y pushes;
    divided = divided;
  }

  pub divided_from : (p d : View) → AreStruck tree row k p → ArePushes tree k p → d ≡ record p { z = d.z } → HoldsDivided p d → AreDivided d
  divided_from p d h pushes e divided = subst (λ (v : View). AreDivided v) (sym e) (divided_at p d.z h pushes (subst (λ (v : View). HoldsDivided p v) e divided))

  pub substitution_refused : (d : View) (e : RowFault) → AreDivided d → RefusesSubstitute d e → IsImpactRefused tree row k e
  substitution_refused d e h refused = IsImpactRefused.in_substitution d h.struck h.pushes h.divided refused

  changed_at : (d : View) (x : List Interval) → AreDivided d → HoldsSubstituted d (record d { x = x }) → AreChanged tree row k (record d { x = x })
  changed_at d x h s = record {
    struck = struck_stays tree row k d (record d { x = x }) h.struck;
    pushes = pushes_stay tree k d d.z x d.y h.pushes;
    divided = h.divided;
    substituted = record { part = s.part; is = s.is };
  }

  pub changed_from : (d n : View) → AreDivided d → n ≡ record d { x = n.x } → HoldsSubstituted d n → AreChanged tree row k n
  changed_from d n h e s = subst (λ (v : View). AreChanged tree row k v) (sym e) (changed_at d n.x h (subst (λ (v : View). HoldsSubstituted d v) e s))

  -- ---- the speeds after, behind the work n
  pub impact_from : (n w : View) → AreChanged tree row k n → w ≡ record n { y = w.y } → AreSpeeds tree row w → AreImpact tree row k w
  impact_from n w h e speeds = record {
    changed = subst (λ (v : View). AreChanged tree row k v) (sym e) (changed_stays tree row k n w.y h);
    speeds = speeds;
  }
