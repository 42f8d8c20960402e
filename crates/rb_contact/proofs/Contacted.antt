-- The values of forward dynamics under rows of constraints, and what is refused first, from those of its parts.
use Rattle.std.proofs.Common.{◌≡◌, ℕ, ◌≤◌, List, length, sym, ap, ◌∙◌, subst}
use Rattle.std.specs.Prelude.{slice_index_or}
use Rattle.rb_num.specs.Interval.{Interval, zero_interval}
use Rattle.rb_flat.specs.Contact.{Constraints}
use Rattle.rb_work.specs.declared.names.RowFault.{RowFault}
use Rattle.rb_work.specs.Path.{above}
use Rattle.rb_work.specs.View.{View, columns_of, L_at, D_at, J_at, w_at, k_at}
use Rattle.rb_bordered.specs.Steps.{IsRow}
use Rattle.rb_tree.specs.Robot.{Tree}
use Rattle.rb_tree.specs.State.{Row}
use Rattle.rb_factor.specs.Factor.{HoldsDivisors}
use Rattle.rb_factor.specs.Solve.{HoldsReduced, HoldsDivided, HoldsSubstituted, RefusesReduce, RefusesDivide, RefusesSubstitute}
use Rattle.rb_constraint.specs.Rows.{AreRows}
use Rattle.rb_constraint.specs.Bias.{AreBias, IsBiasRefused}
use Rattle.rb_coupling.specs.Steps.{of_row}
use Rattle.rb_coupling.specs.Couple.{HoldsCoupling, HoldsRowDivisors, RefusesCouple, IsCoupleRefused}
use Rattle.rb_coupling.specs.Forces.{HoldsRowSides, HoldsRowForces, HoldsAddedForces, RefusesRowForces}
use Rattle.rb_contact.specs.Driving.{AreDriving, IsRightSide}
use Rattle.rb_contact.specs.Forward.{AreFactored}
use Rattle.rb_contact.specs.Contact.{compliances, AreConstrained, AreFree, AreForced, AreContact, IsContactRefused}
use Rattle.rb_contact.proofs.Stays.{factored_stays, driving_stays, rows_stay, bias_stays, constrained_stays, free_stays, forced_stays}
use Rattle.rb_contact.proofs.Assembled.{right_is, reduced_from, reduction_refused}
use Rattle.rb_contact.proofs.Constrained.{couple_refused_from, coupling_from}

module _ (tree : Tree) (row : Row) (k : Constraints Interval) where
  -- ---- the rows, behind the work p
  pub right_moves : (u w : View) → w.w ≡ u.w → w.k ≡ u.k → IsRightSide tree u → IsRightSide tree w
  right_moves u w ew ek h = record {
    each_w = λ c there.
        ap (λ (list : List Interval). slice_index_or list c zero_interval) ew ∙ h.each_w c there
        ∙ sym (ap (λ (list : List Interval). slice_index_or list c zero_interval) ek);
  }

  factored_at : (p r : View) → r ≡ record p { O = r.O; K = r.K; J = r.J } → AreFactored tree row p → AreFactored tree row r
  factored_at p r e h = subst (λ (v : View). AreFactored tree row v) (sym e) (factored_stays tree row p (record p { O = r.O; K = r.K; J = r.J }) h)

  driving_at : (p r : View) → r ≡ record p { O = r.O; K = r.K; J = r.J } → AreDriving tree row p → AreDriving tree row r
  driving_at p r e h = subst (λ (v : View). AreDriving tree row v) (sym e) (driving_stays tree row p (record p { O = r.O; K = r.K; J = r.J }) h)

  pub bias_refused : (p r : View) (e : RowFault) → AreFactored tree row p → AreDriving tree row p → r ≡ record p { O = r.O; K = r.K; J = r.J } → AreRows tree k r
      → IsBiasRefused tree k r e → IsContactRefused tree row k e
  bias_refused p r e factored driving er rows refused = IsContactRefused.in_bias r (factored_at p r er factored) (driving_at p r er driving) rows refused

  -- what a work holds once the rows and their bias are there
  pub record AreBiased (b : View) : Type 0 where
    pub factored : AreFactored tree row b
    pub driving : AreDriving tree row b
    pub rows : AreRows tree k b
    pub bias : AreBias k b

  pub biased_from : (p r b : View) → AreFactored tree row p → AreDriving tree row p → r ≡ record p { O = r.O; K = r.K; J = r.J } → AreRows tree k r → b ≡ record r { g = b.g }
      → AreBias k b → AreBiased b
  biased_from p r b factored driving er rows eb bias =
      let r_factored = factored_at p r er factored in
      let r_driving = driving_at p r er driving in
      record {
        factored = subst (λ (v : View). AreFactored tree row v) (sym eb) (factored_stays tree row r (record r { g = b.g }) r_factored);
        driving = subst (λ (v : View). AreDriving tree row v) (sym eb) (driving_stays tree row r (record r { g = b.g }) r_driving);
        rows = subst (λ (v : View). AreRows tree k v) (sym eb) (rows_stay tree k r (record r { g = b.g }) rows);
        bias = bias;
      }

  pub biased_divisors : (b : View) → AreBiased b → HoldsDivisors b
  biased_divisors b h = h.factored.factors.divisors

  pub couple_refused : (b : View) (mus : List Interval) (e : RowFault) → AreBiased b → length mus ≡ k.rows → ((r : ℕ) → IsRow k.rows r → of_row mus r ≡ compliances k r)
      → RefusesCouple b mus e → IsContactRefused tree row k e
  couple_refused b mus e h count same refused =
      IsContactRefused.in_coupling b h.factored h.driving h.rows h.bias
      (couple_refused_from (columns_of b) (above b.up) k.rows (of_row mus) (compliances k) same (L_at b) (D_at b) (J_at b) e
      (subst (λ (R : ℕ). IsCoupleRefused (columns_of b) (above b.up) R (L_at b) (D_at b) (J_at b) (of_row mus) e) count refused))

  pub constrained_from : (b c : View) (mus : List Interval) → AreBiased b → k.rows ≤ b.rows → length mus ≡ k.rows → ((r : ℕ) → IsRow k.rows r → of_row mus r ≡ compliances k r)
      → c ≡ record b { Y = c.Y; Z = c.Z; pairs = c.pairs } → HoldsCoupling (length mus) b c (of_row mus) → AreConstrained tree row k c
  constrained_from b c mus h room count same e coupling =
      let d : View = record b { Y = c.Y; Z = c.Z; pairs = c.pairs } in
      let held : HoldsCoupling k.rows b c (of_row mus) = subst (λ (R : ℕ). HoldsCoupling R b c (of_row mus)) count coupling in
      subst (λ (v : View). AreConstrained tree row k v) (sym e)
      (record {
        factored = factored_stays tree row b d h.factored;
        driving = driving_stays tree row b d h.driving;
        count = room;
        rows = rows_stay tree k b d h.rows;
        bias = bias_stays k b d h.bias;
        coupling = coupling_from k.rows b c.Y c.Z c.pairs (of_row mus) (compliances k) same (subst (λ (v : View). HoldsCoupling k.rows b v (of_row mus)) e held);
      })

  -- ---- what the factors find without the forces, behind the work c
  pub reduce_refused : (c : View) (e : RowFault) → AreConstrained tree row k c → IsRightSide tree c → RefusesReduce c e → IsContactRefused tree row k e
  reduce_refused c e h right refused =
      IsContactRefused.in_reduction c h (reduction_refused (columns_of c) (above c.up) (L_at c) (w_at c) (k_at c) e (right_is tree row c h.factored right) refused)

  -- the first step is done
  pub record AreReduced (r : View) : Type 0 where
    pub constrained : AreConstrained tree row k r
    pub reduced : HoldsReduced (record r { w = r.k }) r

  reduced_at : (c : View) (w : List Interval) → AreConstrained tree row k c → IsRightSide tree c → HoldsReduced c (record c { w = w }) → AreReduced (record c { w = w })
  reduced_at c w h right reduced = record {
    constrained = constrained_stays tree row k c (record c { w = w }) h;
    reduced = record {
      left = reduced.left;
      is = reduced_from (columns_of c) (above c.up) (L_at c) (w_at c) (k_at c) reduced.left (w_at (record c { w = w })) (right_is tree row c h.factored right) reduced.is;
    };
  }

  pub are_reduced : (c r : View) → AreConstrained tree row k c → IsRightSide tree c → r ≡ record c { w = r.w } → HoldsReduced c r → AreReduced r
  are_reduced c r h right e reduced =
      subst (λ (v : View). AreReduced v) (sym e) (reduced_at c r.w h right (subst (λ (v : View). HoldsReduced c v) e reduced))

  pub divide_refused : (r : View) (e : RowFault) → AreReduced r → RefusesDivide r e → IsContactRefused tree row k e
  divide_refused r e h refused = IsContactRefused.in_division r h.constrained h.reduced refused

  free_at : (r : View) (z : List Interval) → AreReduced r → HoldsDivided r (record r { z = z }) → AreFree tree row k (record r { z = z })
  free_at r z h divided = record {
    constrained = constrained_stays tree row k r (record r { z = z }) h.constrained;
    reduced = record { left = h.reduced.left; is = h.reduced.is };
    divided = divided;
  }

  pub free_from : (r d : View) → AreReduced r → d ≡ record r { z = d.z } → HoldsDivided r d → AreFree tree row k d
  free_from r d h e divided = subst (λ (v : View). AreFree tree row k v) (sym e) (free_at r d.z h (subst (λ (v : View). HoldsDivided r v) e divided))

  -- ---- the forces of the rows, behind the work d
  -- the right sides are there
  pub record AreSided (s : View) : Type 0 where
    pub free : AreFree tree row k s
    pub sides : HoldsRowSides k.rows s s

  sided_at : (d : View) (e : List Interval) → AreFree tree row k d → HoldsRowSides k.rows d (record d { e = e }) → AreSided (record d { e = e })
  sided_at d e h sides = record {
    free = free_stays tree row k d (record d { e = e }) h;
    sides = record { without = sides.without; total = sides.total; are = sides.are };
  }

  pub sided_from : (d s : View) → AreFree tree row k d → s ≡ record d { e = s.e } → HoldsRowSides k.rows d s → AreSided s
  sided_from d s h e sides = subst (λ (v : View). AreSided v) (sym e) (sided_at d s.e h (subst (λ (v : View). HoldsRowSides k.rows d v) e sides))

  pub row_divisors : (s : View) → AreSided s → HoldsRowDivisors k.rows s
  row_divisors s h = h.free.constrained.coupling.divisors

  pub forces_refused : (s : View) (e : RowFault) → AreSided s → RefusesRowForces k.rows s e → IsContactRefused tree row k e
  forces_refused s e h refused = IsContactRefused.in_forces s h.free h.sides refused

  forced_at : (s : View) (e lam : List Interval) → AreSided s → HoldsRowForces k.rows s (record s { e = e; lam = lam }) → AreForced tree row k (record s { e = e; lam = lam })
  forced_at s e lam h forces = record {
    free = free_stays tree row k s (record s { e = e; lam = lam }) h.free;
    sides = s.e;
    row_sides = record { without = h.sides.without; total = h.sides.total; are = h.sides.are };
    row_forces = record {
      left = forces.left;
      reduced = forces.reduced;
      divided = forces.divided;
      part = forces.part;
      right_reduced = forces.right_reduced;
      right_divided = forces.right_divided;
      forces = forces.forces;
      kept = forces.kept;
    };
  }

  pub forced_from : (s f : View) → AreSided s → f ≡ record s { e = f.e; lam = f.lam } → HoldsRowForces k.rows s f → AreForced tree row k f
  forced_from s f h e forces =
      subst (λ (v : View). AreForced tree row k v) (sym e) (forced_at s f.e f.lam h (subst (λ (v : View). HoldsRowForces k.rows s v) e forces))

  -- ---- the accelerations, behind the work f
  pub second_divisors : (f a : View) → AreForced tree row k f → a ≡ record f { w = a.w } → HoldsDivisors a
  second_divisors f a h e = subst (λ (v : View). HoldsDivisors v) (sym e) h.free.constrained.factored.factors.divisors

  pub second_refused : (f a : View) (e : RowFault) → AreForced tree row k f → a ≡ record f { w = a.w } → HoldsAddedForces k.rows f a → RefusesDivide a e → IsContactRefused tree row k e
  second_refused f a e h ea added refused =
      IsContactRefused.in_second_division a f.w (subst (λ (v : View). AreForced tree row k (record v { w = f.w })) (sym ea) h)
      (subst (λ (v : View). HoldsAddedForces k.rows (record v { w = f.w }) a) (sym ea) added) refused

  substituted_at : (f : View) (w z : List Interval) (e : RowFault) → AreForced tree row k f → HoldsAddedForces k.rows f (record f { w = w })
      → HoldsDivided (record f { w = w }) (record f { w = w; z = z }) → RefusesSubstitute (record f { w = w; z = z }) e → IsContactRefused tree row k e
  substituted_at f w z e h added divided refused =
      IsContactRefused.in_substitution (record f { w = w; z = z }) f.w f.z h (record { more = added.more; are = added.are }) divided refused

  contact_at : (f : View) (w z x : List Interval) → AreForced tree row k f → HoldsAddedForces k.rows f (record f { w = w })
      → HoldsDivided (record f { w = w }) (record f { w = w; z = z }) → HoldsSubstituted (record f { w = w; z = z }) (record f { w = w; z = z; x = x })
      → AreContact tree row k (record f { w = w; z = z; x = x })
  contact_at f w z x h added divided substituted = record {
    right = f.w;
    quotients = f.z;
    forced = forced_stays tree row k f x h;
    added = record { more = added.more; are = added.are };
    divided = divided;
    substituted = record { part = substituted.part; is = substituted.is };
  }

  module _ (f a d : View) (h : AreForced tree row k f) (ea : a ≡ record f { w = a.w }) (added : HoldsAddedForces k.rows f a) (ed : d ≡ record a { z = d.z }) (divided : HoldsDivided a d) where
    from_f : d ≡ record f { w = a.w; z = d.z }
    from_f = ed ∙ ap (λ (v : View). record v { z = d.z }) ea

    added_at : HoldsAddedForces k.rows f (record f { w = a.w })
    added_at = subst (λ (v : View). HoldsAddedForces k.rows f v) ea added

    divided_at : HoldsDivided (record f { w = a.w }) (record f { w = a.w; z = d.z })
    divided_at = subst (λ (v : View). HoldsDivided (record f { w = a.w }) v) from_f (subst (λ (v : View). HoldsDivided v d) ea divided)

    pub last_refused : (e : RowFault) → RefusesSubstitute d e → IsContactRefused tree row k e
    last_refused e refused = substituted_at f a.w d.z e h added_at divided_at (subst (λ (v : View). RefusesSubstitute v e) from_f refused)

    pub contact_from : (n : View) → n ≡ record d { x = n.x } → HoldsSubstituted d n → AreContact tree row k n
    contact_from n en found =
        let e : n ≡ record f { w = a.w; z = d.z; x = n.x } = en ∙ ap (λ (v : View). record v { x = n.x }) from_f in
        subst (λ (v : View). AreContact tree row k v) (sym e)
        (contact_at f a.w d.z n.x h added_at divided_at
        (subst (λ (v : View). HoldsSubstituted (record f { w = a.w; z = d.z }) v) e (subst (λ (v : View). HoldsSubstituted v n) from_f found)))
