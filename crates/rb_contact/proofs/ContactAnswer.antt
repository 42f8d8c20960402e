-- What forward dynamics under rows of constraints finds from zeros, and what its answer means.
use Rattle.std.proofs.Common.{◌≡◌, ◌≤◌, ◌+◌, ℕ, List, length, map, Result, Ok, Err, OnOk, IfErr, inl, inr, refl, sym, ap, ◌∙◌, subst, arith}
use Rattle.std.proofs.lemmas.List.{length-map}
use mathlib.Core.Path.{ap₂}
use Rattle.rb_num.specs.Interval.{Interval, zero_interval}
use Rattle.rb_result.specs.Steps.{◌>>=◌}
use Rattle.rb_result.proofs.Results.{same_ok, then-ok, then-err, not-both}
use Rattle.rb_sweep.specs.Sweep.{Answers, upward}
use Rattle.rb_sweep.proofs.Climbing.{length-upward}
use Rattle.rb_sweep.proofs.NamingLaws.{found}
use Rattle.rb_flat.specs.Contact.{Constraints, RowsFit}
use Rattle.rb_bordered.specs.Steps.{IsRow}
use Rattle.rb_work.specs.declared.names.RowFault.{RowFault}
use Rattle.rb_work.specs.View.{View, IsSized, extent_of, columns_of}
use Rattle.rb_work.proofs.PlaceLaws.{ordered}
use Rattle.rb_work.proofs.Sizes.{sizes_of, room_for}
use Rattle.rb_tree.specs.Robot.{Tree, AreBodies}
use Rattle.rb_tree.specs.Shape.{shape_of}
use Rattle.rb_tree.specs.State.{Row}
use Rattle.rb_factor.specs.Solve.{HoldsReduced, HoldsDivided, HoldsSubstituted}
use Rattle.rb_factor.specs.Sweeps.{reduce_of, divide_of, substitute_of}
use Rattle.rb_factor.proofs.Answered as Factors
use Rattle.rb_constraint.specs.Rows.{AreRows}
use Rattle.rb_constraint.specs.Bias.{AreBias}
use Rattle.rb_constraint.specs.Steps.{fills_of, bias_of}
use Rattle.rb_constraint.proofs.RowPass as RowPass
use Rattle.rb_constraint.proofs.BiasPass as BiasPass
use Rattle.rb_coupling.specs.Steps.{of_row}
use Rattle.rb_coupling.specs.Couple.{HoldsCoupling}
use Rattle.rb_coupling.specs.Forces.{HoldsRowSides, HoldsRowForces, HoldsAddedForces}
use Rattle.rb_coupling.specs.Sweeps.{couple_of, sides_of, row_forces_of, added_of}
use Rattle.rb_coupling.proofs.Answered as Rows
use Rattle.rb_contact.specs.Driving.{IsRightSide}
use Rattle.rb_contact.specs.Forward.{AreFactored, prepared_of, accelerations_in}
use Rattle.rb_contact.specs.Contact.{compliances, AreConstrained, AreFree, AreForced, AreContact, IsContactRefused, forces_in, coupled_of, reduced_of, divided_of, sided_of, forced_of, pushed_of, substituted_of, contact_of, HasOneContact, ContactMeans}
use Rattle.rb_contact.proofs.Sized.{sized_from}
use Rattle.rb_contact.proofs.Lengths.{reduce_long, divide_long, coupling_long, sides_long, row_forces_long, added_long}
use Rattle.rb_contact.proofs.Prepared.{Prepared, prepared_found, prepared_refused}
use Rattle.rb_contact.proofs.OneForward.{numbered}
use Rattle.rb_contact.proofs.OneContact.{has_one_contact}
use Rattle.rb_contact.proofs.Constrained.{compliances_are}
use Rattle.rb_contact.proofs.Contacted.{right_moves, bias_refused, AreBiased, biased_from, biased_divisors, couple_refused, constrained_from, reduce_refused, AreReduced, are_reduced, divide_refused, free_from, AreSided, sided_from, row_divisors, forces_refused, forced_from, second_divisors, second_refused, last_refused, contact_from}

-- ---- single steps
abbrev ok : View → Result View RowFault
ok v = Ok v

pub done : {A : Type 0} (r : Result A RowFault) (f : A → View) (v : View) → (r >>= λ t. ok (f t)) ≡ Ok v → (t : A) × (r ≡ Ok t) × (f t ≡ v)
done r f v e = let h = then-ok r (λ t. ok (f t)) v e in (h.0, h.1, same_ok {E = RowFault} (f h.0) v h.2)

pub not_done : {A : Type 0} (r : Result A RowFault) (f : A → View) (e : RowFault) → (r >>= λ t. ok (f t)) ≡ Err e → r ≡ Err e
not_done r f e q =
    elim (then-err r (λ t. ok (f t)) e q) [
      | inl h ↦ h
      | inr h ↦ absurd (not-both (ok (f h.0)) (f h.0) e refl h.2)
    ]

pub resized : (u w : View) → sizes_of w ≡ sizes_of u → IsSized u → IsSized w
resized u w e sized = sized_from w (extent_of u) sized.extent (e ∙ room_for u (extent_of u) sized refl)

pub record Coupled (R : ℕ) (mus : List Interval) (b c : View) : Type 0 where
  pub rest : c ≡ record b { Y = c.Y; Z = c.Z; pairs = c.pairs }
  pub holds : HoldsCoupling R b c (of_row mus)
  pub sized : IsSized c

pub couples : (R : ℕ) (mus : List Interval) (b c : View) → IsSized b → R ≤ b.rows
    → (couple_of b.up b.rows R b.packed b.J mus (b.Y, b.Z, b.pairs) >>= λ t. ok (record b { Y = t.0; Z = t.1; pairs = t.2 })) ≡ Ok c → Coupled R mus b c
couples R mus b c sized within e =
    let h = done (couple_of b.up b.rows R b.packed b.J mus (b.Y, b.Z, b.pairs)) (λ t. record b { Y = t.0; Z = t.1; pairs = t.2 }) c e in
    let t = h.0 in
    let long = coupling_long b.up b.rows R b.packed b.J mus (b.Y, b.Z, b.pairs) t h.1 in
    subst (λ (v : View). Coupled R mus b v) h.2
    (record {
      rest = refl;
      holds = Rows.couple_values b sized R within mus t h.1;
      sized =
          resized b (record b { Y = t.0; Z = t.1; pairs = t.2 })
          (ap (λ (n : ℕ). record (sizes_of b) { Y = n; Z = length t.1; pairs = length t.2 }) (sym long.Y) ∙ ap (λ (n : ℕ). record (sizes_of b) { Z = n; pairs = length t.2 }) (sym long.Z)
          ∙ ap (λ (n : ℕ). record (sizes_of b) { pairs = n }) (sym long.pairs)) sized;
    })

record Reduces (c d : View) : Type 0 where
  rest : d ≡ record c { w = d.w }
  holds : HoldsReduced c d
  sized : IsSized d

reduces : (c d : View) → IsSized c → reduced_of c ≡ Ok d → Reduces c d
reduces c d sized e =
    let h = done (reduce_of c.up c.packed c.w) (λ t. record c { w = t }) d e in
    subst (λ (v : View). Reduces c v) h.2
    (record {
      rest = refl;
      holds = Factors.reduce_values c sized h.0 h.1;
      sized = resized c (record c { w = h.0 }) (ap (λ (n : ℕ). record (sizes_of c) { w = n }) (sym (reduce_long c.up c.packed c.w h.0 h.1))) sized;
    })

record Divides (c d : View) : Type 0 where
  rest : d ≡ record c { z = d.z }
  holds : HoldsDivided c d
  sized : IsSized d

divides : (c d : View) → IsSized c → divided_of c ≡ Ok d → Divides c d
divides c d sized e =
    let h = done (divide_of c.up c.packed c.w c.z) (λ t. record c { z = t }) d e in
    subst (λ (v : View). Divides c v) h.2
    (record {
      rest = refl;
      holds = Factors.divide_values c sized h.0 h.1;
      sized = resized c (record c { z = h.0 }) (ap (λ (n : ℕ). record (sizes_of c) { z = n }) (sym (divide_long c.up c.packed c.w c.z h.0 h.1))) sized;
    })

record Sides (k : Constraints Interval) (u s : View) : Type 0 where
  rest : s ≡ record u { e = s.e }
  holds : HoldsRowSides k.rows u s
  sized : IsSized s

finds_sides : (k : Constraints Interval) (u s : View) → IsSized u → k.rows ≤ u.rows → sided_of k u ≡ Ok s → Sides k u s
finds_sides k u s sized within e =
    let h = done (sides_of (columns_of u) k.rows u.Y u.z u.g u.e) (λ t. record u { e = t }) s e in
    subst (λ (v : View). Sides k u v) h.2
    (record {
      rest = refl;
      holds = Rows.sides_values u sized k.rows within h.0 h.1;
      sized = resized u (record u { e = h.0 }) (ap (λ (n : ℕ). record (sizes_of u) { e = n }) (sym (sides_long (columns_of u) k.rows u.Y u.z u.g u.e h.0 h.1))) sized;
    })

pub record Forces (k : Constraints Interval) (s f : View) : Type 0 where
  pub rest : f ≡ record s { e = f.e; lam = f.lam }
  pub holds : HoldsRowForces k.rows s f
  pub sized : IsSized f

pub finds_forces : (k : Constraints Interval) (s f : View) → IsSized s → k.rows ≤ s.rows → forced_of k s ≡ Ok f → Forces k s f
finds_forces k s f sized within e =
    let h = done (row_forces_of s.rows k.rows s.pairs (s.e, s.lam)) (λ t. record s { e = t.0; lam = t.1 }) f e in
    let t = h.0 in
    let long = row_forces_long s.rows k.rows s.pairs (s.e, s.lam) t h.1 in
    subst (λ (v : View). Forces k s v) h.2
    (record {
      rest = refl;
      holds = Rows.forces_values s sized k.rows within t h.1;
      sized =
          resized s (record s { e = t.0; lam = t.1 })
          (ap (λ (n : ℕ). record (sizes_of s) { e = n; lam = length t.1 }) (sym long.e) ∙ ap (λ (n : ℕ). record (sizes_of s) { lam = n }) (sym long.lam)) sized;
    })

record Pushes (k : Constraints Interval) (f a : View) : Type 0 where
  rest : a ≡ record f { w = a.w }
  holds : HoldsAddedForces k.rows f a
  sized : IsSized a

pushes : (k : Constraints Interval) (f a : View) → IsSized f → k.rows ≤ f.rows → pushed_of k f ≡ Ok a → Pushes k f a
pushes k f a sized within e =
    let h = done (added_of (columns_of f) k.rows f.Y f.lam f.w) (λ t. record f { w = t }) a e in
    subst (λ (v : View). Pushes k f v) h.2
    (record {
      rest = refl;
      holds = Rows.added_values f sized k.rows within h.0 h.1;
      sized = resized f (record f { w = h.0 }) (ap (λ (n : ℕ). record (sizes_of f) { w = n }) (sym (added_long (columns_of f) k.rows f.Y f.lam f.w h.0 h.1))) sized;
    })

record Substitutes (v w : View) : Type 0 where
  rest : w ≡ record v { x = w.x }
  holds : HoldsSubstituted v w

substitutes : (v w : View) → IsSized v → substituted_of v ≡ Ok w → Substitutes v w
substitutes v w sized e =
    let h = done (substitute_of v.up v.packed v.z v.x) (λ t. record v { x = t }) w e in
    subst (λ (u : View). Substitutes v u) h.2 (record { rest = refl; holds = Factors.substitute_values v sized h.0 h.1 })

-- a work has few rows, and no constraints for which it has room have more
pub few_rows : (w : View) (k : Constraints Interval) → k.rows ≤ w.rows → IsSized w → k.rows ≤ 64
few_rows w k within sized = let few : w.rows ≤ 64 = sized.extent.few_rows in omega (arith, within, few)

-- ---- a row
module _ (tree : Tree) (row : Row) (k : Constraints Interval) (kept : AreBodies tree.bodies) (fit : RowsFit (shape_of tree) k) (limit : k.rows ≤ 64) where
  abbrev Numbers : Type 0
  Numbers = List Interval × List Interval

  abbrev answer : View → Result (List Interval × List Interval) RowFault
  answer w = Ok (accelerations_in tree w, forces_in k w)

  -- what an answer is to say
  abbrev Told : Result (List Interval × List Interval) RowFault → Type 0
  Told (Ok numbers) = (w : View) × AreContact tree row k w × ((accelerations_in tree w, forces_in k w) ≡ numbers)
  Told (Err e) = IsContactRefused tree row k e

  then_told : {A : Type 0} (r : Result A RowFault) (g : A → Result (List Interval × List Interval) RowFault) → ((a : A) → r ≡ Ok a → Told (g a))
      → ((e : RowFault) → r ≡ Err e → IsContactRefused tree row k e) → Told (r >>= g)
  then_told (Ok a) g h n = h a refl
  then_told (Err e) g h n = n e refl

  abbrev mus : List Interval
  mus = map (compliances k) (upward 1 (k.rows + 1))

  as_many : length mus ≡ k.rows
  as_many = omega (arith, length-map (upward 1 (k.rows + 1)) (compliances k), length-upward 1 (k.rows + 1))

  same : (r : ℕ) → IsRow k.rows r → of_row mus r ≡ compliances k r
  same = compliances_are k mus (λ r has. numbered (compliances k) k.rows r zero_interval has.from has.to)

  from_quotients : View → Result (List Interval × List Interval) RowFault
  from_quotients v = substituted_of v >>= λ w. answer w

  from_pushed : View → Result (List Interval × List Interval) RowFault
  from_pushed a = divided_of a >>= λ v. from_quotients v

  from_forces : View → Result (List Interval × List Interval) RowFault
  from_forces f = pushed_of k f >>= λ a. from_pushed a

  from_sides : View → Result (List Interval × List Interval) RowFault
  from_sides s = forced_of k s >>= λ f. from_forces f

  from_free : View → Result (List Interval × List Interval) RowFault
  from_free u = sided_of k u >>= λ s. from_sides s

  from_reduced : View → Result (List Interval × List Interval) RowFault
  from_reduced d = divided_of d >>= λ u. from_free u

  from_coupled : View → Result (List Interval × List Interval) RowFault
  from_coupled c = reduced_of c >>= λ d. from_reduced d

  from_biased : View → Result (List Interval × List Interval) RowFault
  from_biased b = coupled_of k b >>= λ c. from_coupled c

  from_rows : View → Result (List Interval × List Interval) RowFault
  from_rows r = bias_of k r >>= λ b. from_biased b

  from_prepared : View → Result (List Interval × List Interval) RowFault
  from_prepared p = fills_of tree k p >>= λ r. from_rows r

  whole : contact_of tree row k ≡ (prepared_of tree row k.rows >>= λ p. from_prepared p)
  unfolding contact_of from_quotients from_pushed from_forces from_sides from_free from_reduced from_coupled from_biased from_rows from_prepared
  whole = refl

  quotients_told : (f a v : View) → AreForced tree row k f → a ≡ record f { w = a.w } → HoldsAddedForces k.rows f a → v ≡ record a { z = v.z } → HoldsDivided a v → IsSized v
      → Told (from_quotients v)
  unfolding from_quotients
  quotients_told f a v h ea added ev divided sized =
      then_told (substituted_of v) (λ w. answer w)
      (λ w e. let s = substitutes v w sized e in (w, contact_from tree row k f a v h ea added ev divided w s.rest s.holds, refl))
      (λ e r. last_refused tree row k f a v h ea added ev divided e (Factors.substitute_refused v sized e (not_done (substitute_of v.up v.packed v.z v.x) (λ t. record v { x = t }) e r)))

  pushed_told : (f a : View) → AreForced tree row k f → Pushes k f a → Told (from_pushed a)
  unfolding from_pushed
  pushed_told f a h p =
      then_told (divided_of a) (λ v. from_quotients v)
      (λ v e. let d = divides a v p.sized e in quotients_told f a v h p.rest p.holds d.rest d.holds d.sized)
      (λ e r. second_refused tree row k f a e h p.rest p.holds
      (Factors.divide_refused a p.sized (second_divisors tree row k f a h p.rest) e (not_done (divide_of a.up a.packed a.w a.z) (λ t. record a { z = t }) e r)))

  forces_told : (f : View) → AreForced tree row k f → IsSized f → Told (from_forces f)
  unfolding from_forces
  forces_told f h sized =
      let within : k.rows ≤ f.rows = h.free.constrained.count in
      then_told (pushed_of k f) (λ a. from_pushed a) (λ a e. pushed_told f a h (pushes k f a sized within e))
      (λ e r. IsContactRefused.in_addition f h (Rows.added_refused_of f sized k.rows within e (not_done (added_of (columns_of f) k.rows f.Y f.lam f.w) (λ t. record f { w = t }) e r)))

  sides_told : (s : View) → AreSided tree row k s → IsSized s → Told (from_sides s)
  unfolding from_sides
  sides_told s h sized =
      let within : k.rows ≤ s.rows = h.free.constrained.count in
      then_told (forced_of k s) (λ f. from_forces f) (λ f e. let p = finds_forces k s f sized within e in forces_told f (forced_from tree row k s f h p.rest p.holds) p.sized)
      (λ e r. forces_refused tree row k s e h
      (Rows.forces_refused_of s sized k.rows within (row_divisors tree row k s h) e (not_done (row_forces_of s.rows k.rows s.pairs (s.e, s.lam)) (λ t. record s { e = t.0; lam = t.1 }) e r)))

  free_told : (u : View) → AreFree tree row k u → IsSized u → Told (from_free u)
  unfolding from_free
  free_told u h sized =
      let within : k.rows ≤ u.rows = h.constrained.count in
      then_told (sided_of k u) (λ s. from_sides s) (λ s e. let p = finds_sides k u s sized within e in sides_told s (sided_from tree row k u s h p.rest p.holds) p.sized)
      (λ e r. IsContactRefused.in_sides u h (Rows.sides_refused_of u sized k.rows within e (not_done (sides_of (columns_of u) k.rows u.Y u.z u.g u.e) (λ t. record u { e = t }) e r)))

  reduced_told : (d : View) → AreReduced tree row k d → IsSized d → Told (from_reduced d)
  unfolding from_reduced
  reduced_told d h sized =
      then_told (divided_of d) (λ u. from_free u) (λ u e. let p = divides d u sized e in free_told u (free_from tree row k d u h p.rest p.holds) p.sized)
      (λ e r. divide_refused tree row k d e h
      (Factors.divide_refused d sized h.constrained.factored.factors.divisors e (not_done (divide_of d.up d.packed d.w d.z) (λ t. record d { z = t }) e r)))

  coupled_told : (c : View) → AreConstrained tree row k c → IsRightSide tree c → IsSized c → Told (from_coupled c)
  unfolding from_coupled
  coupled_told c h right sized =
      then_told (reduced_of c) (λ d. from_reduced d) (λ d e. let p = reduces c d sized e in reduced_told d (are_reduced tree row k c d h right p.rest p.holds) p.sized)
      (λ e r. reduce_refused tree row k c e h right (Factors.reduce_refused c sized e (not_done (reduce_of c.up c.packed c.w) (λ t. record c { w = t }) e r)))

  biased_told : (b : View) → AreBiased tree row k b → k.rows ≤ b.rows → IsRightSide tree b → IsSized b → Told (from_biased b)
  unfolding from_biased
  biased_told b h within right sized =
      then_told (coupled_of k b) (λ c. from_coupled c)
      (λ c e. let p = couples k.rows mus b c sized within e in
      coupled_told c (constrained_from tree row k b c mus h within as_many same p.rest (subst (λ (R : ℕ). HoldsCoupling R b c (of_row mus)) (sym as_many) p.holds))
      (right_moves tree row k b c (ap (λ (v : View). v.w) p.rest) (ap (λ (v : View). v.k) p.rest) right) p.sized)
      (λ e r. couple_refused tree row k b mus e h as_many same
      (Rows.couple_refused b sized k.rows within mus as_many (biased_divisors tree row k b h) e
      (not_done (couple_of b.up b.rows k.rows b.packed b.J mus (b.Y, b.Z, b.pairs)) (λ t. record b { Y = t.0; Z = t.1; pairs = t.2 }) e r)))

  record Filled (p r : View) : Type 0 where
    rest : r ≡ record p { O = r.O; K = r.K; J = r.J }
    sized : IsSized r
    rows : AreRows tree k r

  fills : (p r : View) → IsSized p → AreFactored tree row p → k.rows ≤ p.rows → fills_of tree k p ≡ Ok r → Filled p r
  fills p r sized h within e =
      let room = RowPass.room_of tree k kept fit p sized h.room within in
      let f = found _ _ (ordered (RowPass.call tree k (extent_of p)) (RowPass.is_call tree k kept fit (extent_of p) room)) p r (room_for p (extent_of p) sized refl) e in
      record {
        rest = sym (ap (λ (v : View). record v { O = r.O; K = r.K; J = r.J }) f.keeps);
        sized = sized_from r (extent_of p) sized.extent f.fits;
        rows = RowPass.rows_found tree k kept fit p r sized h.room within e;
      }

  record Biased (r b : View) : Type 0 where
    rest : b ≡ record r { g = b.g }
    sized : IsSized b
    bias : AreBias k b

  biases : (r b : View) → IsSized r → k.rows ≤ r.rows → bias_of k r ≡ Ok b → Biased r b
  biases r b sized within e =
      let f = found _ _ (ordered (BiasPass.call tree k (extent_of r)) (BiasPass.is_call tree k fit (extent_of r) within sized.extent.ascends)) r b (room_for r (extent_of r) sized refl) e in
      record {
        rest = sym (ap (λ (v : View). record v { g = b.g }) f.keeps);
        sized = sized_from b (extent_of r) sized.extent f.fits;
        bias = BiasPass.bias_found tree k fit r b sized within e;
      }

  rows_told : (p r : View) → Prepared tree row kept k.rows limit p → Filled p r → Told (from_rows r)
  unfolding from_rows
  rows_told p r h f =
      let same_rows : r.rows ≡ k.rows = ap (λ (v : View). v.rows) f.rest ∙ h.count in
      let within : k.rows ≤ r.rows = omega (arith, same_rows) in
      then_told (bias_of k r) (λ b. from_biased b)
      (λ b e. let g = biases r b f.sized within e in
      biased_told b (biased_from tree row k p r b h.factored h.driving f.rest f.rows g.rest g.bias) (subst (λ (n : ℕ). k.rows ≤ n) (sym (ap (λ (v : View). v.rows) g.rest)) within)
      (right_moves tree row k p b (ap (λ (v : View). v.w) g.rest ∙ ap (λ (v : View). v.w) f.rest) (ap (λ (v : View). v.k) g.rest ∙ ap (λ (v : View). v.k) f.rest) h.right) g.sized)
      (λ e q. bias_refused tree row k p r e h.factored h.driving f.rest f.rows (BiasPass.bias_refused tree k fit r e f.sized within q))

  prepared_told : (p : View) → Prepared tree row kept k.rows limit p → Told (from_prepared p)
  unfolding from_prepared
  prepared_told p h =
      let within : k.rows ≤ p.rows = omega (arith, h.count) in
      then_told (fills_of tree k p) (λ r. from_rows r) (λ r e. rows_told p r h (fills p r h.sized h.factored within e))
      (λ e q. IsContactRefused.in_rows p h.factored h.driving (RowPass.rows_refused tree k kept fit p e h.sized h.factored.room within q))

  told : Told (contact_of tree row k)
  told =
      subst (λ (r : Result (List Interval × List Interval) RowFault). Told r) (sym whole)
      (then_told (prepared_of tree row k.rows) (λ p. from_prepared p) (λ p e. prepared_told p (prepared_found tree row kept k.rows limit p e))
      (λ e q. IsContactRefused.in_preparation (prepared_refused tree row kept k.rows limit e q)))

  contact_found : (numbers : List Interval × List Interval) → contact_of tree row k ≡ Ok numbers
      → (w : View) × AreContact tree row k w × ((accelerations_in tree w, forces_in k w) ≡ numbers)
  contact_found numbers e = subst (λ (r : Result (List Interval × List Interval) RowFault). Told r) e told

  contact_refused : (e : RowFault) → contact_of tree row k ≡ Err e → IsContactRefused tree row k e
  contact_refused e q = subst (λ (r : Result (List Interval × List Interval) RowFault). Told r) q told

  -- ---- what the answer means, as there is one
  one : HasOneContact tree row k
  one = has_one_contact tree row k kept fit

  abbrev pair : View → List Interval × List Interval
  pair w = (accelerations_in tree w, forces_in k w)

  all : List Interval × List Interval → Result (List Interval × List Interval) RowFault
  all numbers = Ok numbers

  pub contact_is : (w : View) → AreContact tree row k w → contact_of tree row k ≡ Ok (accelerations_in tree w, forces_in k w)
  unfolding all
  contact_is w h = go (contact_of tree row k) refl
    where
      numbers_same : (u : View) → AreContact tree row k u → pair u ≡ pair w
      numbers_same u hu = ap₂ (λ (xs ys : List Interval). (xs, ys)) (one.accelerations u w hu h) (one.forces u w hu h)

      go : (r : Result (List Interval × List Interval) RowFault) → contact_of tree row k ≡ r → r ≡ Ok (accelerations_in tree w, forces_in k w)
      go (Ok xs) e = let f = contact_found xs e in ap all (sym f.2 ∙ numbers_same f.0 f.1)
      go (Err e) r = absurd (one.either w e h (contact_refused e r))

  pub contact_refused_is : (e : RowFault) → IsContactRefused tree row k e → contact_of tree row k ≡ Err e
  contact_refused_is e h = go (contact_of tree row k) refl
    where
      go : (r : Result (List Interval × List Interval) RowFault) → contact_of tree row k ≡ r → r ≡ Err e
      go (Ok xs) q = let f = contact_found xs q in absurd (one.either f.0 e f.1 h)
      go (Err d) q =
          let fault : RowFault → Result (List Interval × List Interval) RowFault = λ e. Err e in
          ap fault (one.refusal d e (contact_refused d q) h)

  pub told_contact : {A : Type 0} (r : Result A RowFault) (t : View) → OnOk r (AreContact tree row k t) → IfErr r (IsContactRefused tree row k)
      → Answers r (contact_of tree row k) (accelerations_in tree t, forces_in k t)
  told_contact (Ok x) t h n = contact_is t h
  told_contact (Err e) t h n = contact_refused_is e n

  pub contact_means : ContactMeans tree row k
  unfolding all
  contact_means = record {
    values = λ numbers. (contact_found numbers, λ h. contact_is h.0 h.1 ∙ ap all h.2);
    refused = λ e. (contact_refused e, contact_refused_is e);
  }
