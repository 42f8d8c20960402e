-- How the differences of speeds of rows turn round, over the changes of the columns' speeds.
use Rattle.std.proofs.Common.{ℕ, suc, Bool, true, false, [], ◌∷◌, refl}
use Rattle.rb_frac.specs.Ops.{V3, minus, vadd, vdot, vcross, sum as sum_of}
use Rattle.rb_frac.specs.Frac.{Frac, Same, fracs, add, neg, mul}
use Rattle.rb_frac.specs.Tables.{Table, row}
use Rattle.rb_frac.specs.Spatial.{Motion}
use Rattle.rb_frac.specs.Mechanics.{plus}
use Rattle.rb_frac.proofs.Ring.{expr, var}
use Rattle.rb_frac.proofs.Reduce.{same_refl, same_sym, same_trans}
use Rattle.rb_frac.proofs.Rational.{add_same, mul_same, neg_same}
use Rattle.rb_frac.proofs.Hom.{frac_ring}
use Rattle.rb_frac.proofs.Variables.{vector, spatial, of_vector, of_spatial, at}
use Rattle.rb_flat.specs.Shape.{Shape, ParentsComeFirst, ColumnsFit}
use Rattle.rb_flat.specs.Mechanism.{Mechanism}
use Rattle.rb_flat.specs.Contact.{Constraints, HasRow, RowsFit, point_speed, row_speed}
use Rattle.rb_jacobian.specs.Jacobian.{row_speeds, MovesAt, IsJacobian}
use Rattle.rb_jacobian.proofs.Speeds.{jacobian_gives_speeds}

-- ---- numbers
parted : (a b x y : Frac) → Same (minus fracs (add a x) (add b y)) (add (minus fracs a b) (minus fracs x y))
parted a b x y =
    frac_ring (at (a ∷ b ∷ x ∷ y ∷ []))
    (minus expr (expr.add (var 0) (var 2)) (expr.add (var 1) (var 3)))
    (expr.add (minus expr (var 0) (var 1)) (minus expr (var 2) (var 3)))
    refl

-- what a row has, for the speeds a before, their change b, the restitution e and the impulse l
abbrev pub held : Frac → Frac → Frac → Frac → Frac
held a b e l = add (add b (mul (add fracs.one e) a)) (mul fracs.nul l)

fallen : (a b e l : Frac) → Same (held a b e l) (add (add a b) (mul e a))
fallen a b e l =
    frac_ring (at (a ∷ b ∷ e ∷ l ∷ []))
    (expr.add (expr.add (var 1) (expr.mul (expr.add expr.one (var 2)) (var 0))) (expr.mul expr.nul (var 3)))
    (expr.add (expr.add (var 0) (var 1)) (expr.mul (var 2) (var 0)))
    refl

cancelled : (x : Frac) → Same (add (neg x) x) fracs.nul
cancelled x = frac_ring (at (x ∷ [])) (expr.add (expr.neg (var 0)) (var 0)) expr.nul refl

alone : (x y : Frac) → Same x (add (add x y) (neg y))
alone x y = frac_ring (at (x ∷ y ∷ [])) (var 0) (expr.add (expr.add (var 0) (var 1)) (expr.neg (var 1))) refl

nothing_more : (x : Frac) → Same (add fracs.nul x) x
nothing_more x = frac_ring (at (x ∷ [])) (expr.add expr.nul (var 0)) (var 0) refl

holds : (a b e l : Frac) → Same (add a b) (neg (mul e a)) → Same (held a b e l) fracs.nul
holds a b e l h =
    let x = mul e a in
    same_trans (held a b e l) (add (add a b) x) fracs.nul (fallen a b e l)
    (same_trans (add (add a b) x) (add (neg x) x) fracs.nul (add_same (add a b) (neg x) x x h (same_refl x)) (cancelled x))

turns_round : (a b e l : Frac) → Same (held a b e l) fracs.nul → Same (add a b) (neg (mul e a))
turns_round a b e l h =
    let x = mul e a in
    let s = add (add a b) x in
    same_trans (add a b) (add s (neg x)) (neg x) (alone (add a b) x)
    (same_trans (add s (neg x)) (add fracs.nul (neg x)) (neg x)
    (add_same s fracs.nul (neg x) (neg x) (same_trans s (held a b e l) fracs.nul (same_sym (held a b e l) s (fallen a b e l)) h) (same_refl (neg x)))
    (nothing_more (neg x)))

-- ---- rows
speed_plus : (turns : Bool) (d q : V3 Frac) (v w : Motion Frac) → Same (row_speed fracs turns d q (plus fracs v w)) (add (row_speed fracs turns d q v) (row_speed fracs turns d q w))
unfolding row_speed point_speed plus vadd vdot vcross
speed_plus true d q v w =
    frac_ring (at (of_vector d (of_vector q (of_spatial v (of_spatial w [])))))
    (row_speed expr true (vector 0) (vector 3) (plus expr (spatial 6) (spatial 12)))
    (expr.add (row_speed expr true (vector 0) (vector 3) (spatial 6)) (row_speed expr true (vector 0) (vector 3) (spatial 12)))
    refl
speed_plus false d q v w =
    frac_ring (at (of_vector d (of_vector q (of_spatial v (of_spatial w [])))))
    (row_speed expr false (vector 0) (vector 3) (plus expr (spatial 6) (spatial 12)))
    (expr.add (row_speed expr false (vector 0) (vector 3) (spatial 6)) (row_speed expr false (vector 0) (vector 3) (spatial 12)))
    refl

module _ (k : Constraints Frac) (turn : ℕ → Table Frac) (v w : ℕ → Motion Frac) where
  abbrev both : ℕ → Motion Frac
  both i = plus fracs (v i) (w i)

  rows_plus : (r : ℕ) → Same (row_speeds k turn both r) (add (row_speeds k turn v r) (row_speeds k turn w r))
  rows_plus r =
      let p = k.row r in
      let n = k.numbers r in
      let d = row (turn p.first) p.axis in
      let e = row (turn p.second) p.axis in
      let a = row_speed fracs p.turns d n.first_point (v p.first) in
      let x = row_speed fracs p.turns d n.first_point (w p.first) in
      let b = row_speed fracs p.turns e n.second_point (v p.second) in
      let y = row_speed fracs p.turns e n.second_point (w p.second) in
      let f = row_speed fracs p.turns d n.first_point (both p.first) in
      let g = row_speed fracs p.turns e n.second_point (both p.second) in
      same_trans (minus fracs f g) (minus fracs (add a x) (add b y)) (add (minus fracs a b) (minus fracs x y))
      (add_same f (add a x) (neg g) (neg (add b y))
      (speed_plus p.turns d n.first_point (v p.first) (w p.first))
      (neg_same g (add b y) (speed_plus p.turns e n.second_point (v p.second) (w p.second))))
      (parted a b x y)

  module _ (shape : Shape) (m : Mechanism Frac) (J : ℕ → ℕ → Frac) (parents : ParentsComeFirst shape) (fit : ColumnsFit shape) (fits : RowsFit shape k)
      (is : IsJacobian shape m k turn J) (x : ℕ → Frac) (hv : MovesAt shape m m.speed v) (hw : MovesAt shape m x w) where
    abbrev along : (ℕ → Frac) → ℕ → Frac
    along rate r = sum_of fracs shape.columns (λ c. mul (J r (suc c)) (rate (suc c)))

    before : (r : ℕ) → HasRow k r → Same (row_speeds k turn v r) (along m.speed r)
    before r hr = jacobian_gives_speeds shape m k turn J m.speed v parents fit fits is hv r hr

    after : (r : ℕ) → HasRow k r → Same (row_speeds k turn both r) (add (along m.speed r) (along x r))
    after r hr =
        let a = row_speeds k turn v r in
        let b = row_speeds k turn w r in
        same_trans (row_speeds k turn both r) (add a b) (add (along m.speed r) (along x r)) (rows_plus r)
        (add_same a (along m.speed r) b (along x r) (before r hr) (jacobian_gives_speeds shape m k turn J x w parents fit fits is hw r hr))

    -- what the restitution e leaves of the speeds before
    left : (e : Frac) (r : ℕ) → HasRow k r → Same (neg (mul e (row_speeds k turn v r))) (neg (mul e (along m.speed r)))
    left e r hr =
        neg_same (mul e (row_speeds k turn v r)) (mul e (along m.speed r)) (mul_same e e (row_speeds k turn v r) (along m.speed r) (same_refl e) (before r hr))

    pub row_holds : (e l : Frac) (r : ℕ) → HasRow k r → Same (row_speeds k turn both r) (neg (mul e (row_speeds k turn v r)))
        → Same (held (along m.speed r) (along x r) e l) fracs.nul
    row_holds e l r hr h =
        let a = along m.speed r in
        let b = along x r in
        let s = row_speeds k turn both r in
        let t = neg (mul e (row_speeds k turn v r)) in
        holds a b e l
        (same_trans (add a b) s (neg (mul e a)) (same_sym s (add a b) (after r hr)) (same_trans s t (neg (mul e a)) h (left e r hr)))

    pub row_turns : (e l : Frac) (r : ℕ) → HasRow k r → Same (held (along m.speed r) (along x r) e l) fracs.nul
        → Same (row_speeds k turn both r) (neg (mul e (row_speeds k turn v r)))
    row_turns e l r hr h =
        let a = along m.speed r in
        let b = along x r in
        let s = row_speeds k turn both r in
        let t = neg (mul e (row_speeds k turn v r)) in
        same_trans s (add a b) t (after r hr)
        (same_trans (add a b) (neg (mul e a)) t (turns_round a b e l h) (same_sym t (neg (mul e a)) (left e r hr)))
