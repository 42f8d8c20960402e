-- The Jacobian gives the speeds of the rows, and there is one.
use Rattle.std.proofs.Common.{◌≡◌, ℕ, suc, ◌≤◌, Bool, true, false, [], refl, sym, ◌∙◌, ap, arith}
use mathlib.Core.Path.{ap₂}
use Rattle.rb_frac.specs.Ops.{V3, minus, vadd, vdot, vcross, sum as sum_of}
use Rattle.rb_frac.specs.Pairs.{dot}
use Rattle.rb_frac.specs.Frac.{Frac, Same, fracs, neg, mul}
use Rattle.rb_frac.specs.Tables.{Table, row}
use Rattle.rb_frac.specs.Spatial.{Motion, Force}
use Rattle.rb_frac.specs.Mechanics.{power_of}
use Rattle.rb_frac.proofs.Ring.{expr}
use Rattle.rb_frac.proofs.Reduce.{same_refl}
use Rattle.rb_frac.proofs.Rational.{ℚ, ◌+ℚ◌, ◌*ℚ◌, neg_ℚ, qo, rats, cls, sound, exact, cls-rep, cls-zero, mul_comm_ℚ}
use Rattle.rb_frac.proofs.Hom.{frac_ring, cls_of_add, cls_of_neg, cls_of_mul}
use Rattle.rb_frac.proofs.Quote.{with3, finish, quote}
use Rattle.rb_frac.proofs.Sums.{sum, sum_ext, sum-add, sum-neg}
use Rattle.rb_frac.proofs.Transfer.{cls-sum}
use Rattle.rb_frac.proofs.Variables.{vector, spatial, of_vector, of_spatial, at}
use Rattle.rb_num.specs.Arith.{fractions}
use Rattle.rb_num.proofs.Bridges.{expressions}
use Rattle.rb_spatial.specs.Motions.{cross3, power as rule_power}
use Rattle.rb_flat.specs.Shape.{Shape, HasColumn, ParentsComeFirst, ColumnsFit}
use Rattle.rb_flat.specs.Mechanism.{Mechanism}
use Rattle.rb_flat.specs.Contact.{Constraints, HasRow, RowsFit, point_speed, row_speed}
use Rattle.rb_flat.proofs.Powers.{power}
use Rattle.rb_composite.specs.Composite.{ancestor, over_joints, carried, share}
use Rattle.rb_composite.proofs.Forms.{power-by_rule}
use Rattle.rb_composite.proofs.Joints.{count, total, cls-over_joints, total_ext}
use Rattle.rb_composite.proofs.Seen.{seen, seen-at, seen-apart}
use Rattle.rb_jacobian.specs.Rules.{row_vector}
use Rattle.rb_jacobian.specs.Jacobian.{first_vector, second_vector, row_speeds, MovesAt, AreEntries, IsJacobian}
use Rattle.rb_jacobian.specs.Laws.{JacobianGivesSpeeds, HasJacobian, JacobianIsOne}
use Rattle.rb_jacobian.proofs.Entries.{joint_rate, by_joints, entry_is, power_by_entries}

-- ---- one body of a row
vector_power : (turns : Bool) (d q : V3 Frac) (v : Motion Frac) → Same (row_speed fracs turns d q v) (power_of fracs v (row_vector fractions turns d q))
unfolding row_speed row_vector point_speed cross3 dot power_of vadd vdot vcross
vector_power true d q v =
    frac_ring (at (of_vector d (of_vector q (of_spatial v []))))
    (row_speed expr true (vector 0) (vector 3) (spatial 6))
    (power_of expr (spatial 6) (row_vector expressions true (vector 0) (vector 3)))
    refl
vector_power false d q v =
    frac_ring (at (of_vector d (of_vector q (of_spatial v []))))
    (row_speed expr false (vector 0) (vector 3) (spatial 6))
    (power_of expr (spatial 6) (row_vector expressions false (vector 0) (vector 3)))
    refl

speed_power : (turns : Bool) (d q : V3 Frac) (v : Motion Frac) → cls (row_speed fracs turns d q v) ≡ power v (row_vector fractions turns d q)
unfolding power
speed_power turns d q v = sound (row_speed fracs turns d q v) (power_of fracs v (row_vector fractions turns d q)) (vector_power turns d q v)

less : (x y r : ℚ) → x *ℚ r +ℚ neg_ℚ (y *ℚ r) ≡ (x +ℚ neg_ℚ y) *ℚ r
less x y r = with3 x y r λ ρ a b c. simp (a, b, c, quote) (finish ρ _ _ refl)

-- ---- the rows
module _ (shape : Shape) (m : Mechanism Frac) (k : Constraints Frac) (turn : ℕ → Table Frac) (J : ℕ → ℕ → Frac)
    (parents : ParentsComeFirst shape) (fit : ColumnsFit shape) (fits : RowsFit shape k) (is : IsJacobian shape m k turn J) where
  -- the entry of a joint column
  abbrev pair : ℕ → ℕ → ℕ → ℚ
  pair r i l = cls (is.first r i l) +ℚ neg_ℚ (cls (is.second r i l))

  cls_minus : (x y : Frac) → cls (minus fracs x y) ≡ cls x +ℚ neg_ℚ (cls y)
  cls_minus x y = cls_of_add x (neg y) ∙ ap (λ (t : ℚ). cls x +ℚ t) (cls_of_neg y)

  row_entries : (r c : ℕ) → HasRow k r → HasColumn shape c → cls (J r c) ≡ total shape (λ i l. cls (share shape m c i l) *ℚ pair r i l)
  row_entries r c hr hc =
      sound (J r c) (over_joints shape (λ i l. mul (share shape m c i l) (minus fracs (is.first r i l) (is.second r i l)))) (is.each r c hr hc)
      ∙ cls-over_joints shape (λ i l. mul (share shape m c i l) (minus fracs (is.first r i l) (is.second r i l)))
      ∙ total_ext shape _ _ (λ i l there.
      cls_of_mul (share shape m c i l) (minus fracs (is.first r i l) (is.second r i l))
      ∙ ap (λ (t : ℚ). cls (share shape m c i l) *ℚ t) (cls_minus (is.first r i l) (is.second r i l)))

  total-less : (f g : ℕ → ℕ → ℚ) → total shape f +ℚ neg_ℚ (total shape g) ≡ total shape (λ i l. f i l +ℚ neg_ℚ (g i l))
  total-less f g =
      sym (sum_ext qo shape.bodies _ _ (λ i h.
      sum-add rats (count shape (suc i)) (f (suc i)) (λ l. neg_ℚ (g (suc i) l))
      ∙ ap (λ (t : ℚ). sum qo (count shape (suc i)) (f (suc i)) +ℚ t) (sum-neg rats (count shape (suc i)) (g (suc i))))
      ∙ sum-add rats shape.bodies (λ i. sum qo (count shape (suc i)) (f (suc i))) (λ i. neg_ℚ (sum qo (count shape (suc i)) (g (suc i))))
      ∙ ap (λ (t : ℚ). total shape f +ℚ t) (sum-neg rats shape.bodies (λ i. sum qo (count shape (suc i)) (g (suc i)))))

  module _ (rate : ℕ → Frac) (v : ℕ → Motion Frac) (moves : MovesAt shape m rate v) where
    along_rates : (r : ℕ) → HasRow k r
        → sum qo shape.columns (λ c. cls (J r (suc c)) *ℚ cls (rate (suc c))) ≡ total shape (λ i l. pair r i l *ℚ joint_rate shape m fit rate i l)
    along_rates r hr =
        sum_ext qo shape.columns _ _ (λ c l.
        ap (λ (t : ℚ). t *ℚ cls (rate (suc c))) (row_entries r (suc c) hr (record { from = omega arith; to = omega arith }))
        ∙ mul_comm_ℚ (total shape (λ i l. cls (share shape m (suc c) i l) *ℚ pair r i l)) (cls (rate (suc c))))
        ∙ by_joints shape m fit rate (pair r)

    pub row_speeds_are : (r : ℕ) → HasRow k r → cls (row_speeds k turn v r) ≡ sum qo shape.columns (λ c. cls (J r (suc c)) *ℚ cls (rate (suc c)))
    row_speeds_are r hr =
        let w = k.row r in
        let n = k.numbers r in
        let first = row_speed fracs w.turns (row (turn w.first) w.axis) n.first_point (v w.first) in
        let second = row_speed fracs w.turns (row (turn w.second) w.axis) n.second_point (v w.second) in
        cls_minus first second
        ∙ ap₂ (λ (x y : ℚ). x +ℚ neg_ℚ y)
        (speed_power w.turns (row (turn w.first) w.axis) n.first_point (v w.first)
        ∙ power_by_entries shape m parents w.first (first_vector k turn r) (fits r hr).first (is.first r) (is.firsts r hr) fit rate v moves)
        (speed_power w.turns (row (turn w.second) w.axis) n.second_point (v w.second)
        ∙ power_by_entries shape m parents w.second (second_vector k turn r) (fits r hr).second (is.second r) (is.seconds r hr) fit rate v moves)
        ∙ total-less (λ i l. cls (is.first r i l) *ℚ joint_rate shape m fit rate i l) (λ i l. cls (is.second r i l) *ℚ joint_rate shape m fit rate i l)
        ∙ total_ext shape _ _ (λ i l there. less (cls (is.first r i l)) (cls (is.second r i l)) (joint_rate shape m fit rate i l))
        ∙ sym (along_rates r hr)

pub jacobian_gives_speeds : JacobianGivesSpeeds
jacobian_gives_speeds shape m k turn J rate v parents fit fits is moves r hr =
    exact (row_speeds k turn v r) (sum_of fracs shape.columns (λ c. mul (J r (suc c)) (rate (suc c))))
    (row_speeds_are shape m k turn J parents fit fits is rate v moves r hr
    ∙ sym (cls-sum shape.columns (λ c. mul (J r (suc c)) (rate (suc c))) ∙ sum_ext qo shape.columns _ _ (λ c l. cls_of_mul (J r (suc c)) (rate (suc c)))))

-- ---- there is one
module _ (shape : Shape) (m : Mechanism Frac) (parents : ParentsComeFirst shape) where
  entries_of : ℕ → Force Frac → ℕ → ℕ → Frac
  entries_of b f i l = (seen shape m b i f (m.column i l)).rep

  are_entries : (b : ℕ) (f : Force Frac) → b ≤ shape.bodies → AreEntries shape m b f (entries_of b f)
  unfolding entries_of
  are_entries b f low = record {
    along = λ n l there.
        let a = ancestor shape b n in
        exact (seen shape m b a f (m.column a l)).rep (rule_power fractions (m.column a l) (carried shape m b f n))
        (cls-rep (seen shape m b a f (m.column a l))
        ∙ seen-at shape m parents b n f (m.column a l) low there.there.from
        ∙ sym (power-by_rule (m.column a l) (carried shape m b f n)));
    off = λ i l there no.
        exact (seen shape m b i f (m.column i l)).rep fracs.nul
        (cls-rep (seen shape m b i f (m.column i l)) ∙ seen-apart shape m b i f (m.column i l) no ∙ sym cls-zero);
  }

pub has_jacobian : HasJacobian
has_jacobian shape m k turn parents fits =
    let first = λ (r : ℕ). entries_of shape m parents (k.row r).first (first_vector k turn r) in
    let second = λ (r : ℕ). entries_of shape m parents (k.row r).second (second_vector k turn r) in (
      λ r c. over_joints shape (λ i l. mul (share shape m c i l) (minus fracs (first r i l) (second r i l))),
      record {
        first = first;
        second = second;
        firsts = λ r hr. are_entries shape m parents (k.row r).first (first_vector k turn r) (fits r hr).first;
        seconds = λ r hr. are_entries shape m parents (k.row r).second (second_vector k turn r) (fits r hr).second;
        each = λ r c hr hc. same_refl (over_joints shape (λ i l. mul (share shape m c i l) (minus fracs (first r i l) (second r i l))));
      },
    )

pub jacobian_is_one : JacobianIsOne
jacobian_is_one shape m k turn J J' parents fit fits is is' r c hr hc =
    let w = k.row r in
    let f = first_vector k turn r in
    let g = second_vector k turn r in
    exact (J r c) (J' r c)
    (row_entries shape m k turn J parents fit fits is r c hr hc
    ∙ total_ext shape _ _ (λ i l there.
    ap (λ (t : ℚ). cls (share shape m c i l) *ℚ t)
    (ap₂ (λ (x y : ℚ). x +ℚ neg_ℚ y)
    (entry_is shape m parents w.first f (fits r hr).first (is.first r) (is.firsts r hr) i l there
    ∙ sym (entry_is shape m parents w.first f (fits r hr).first (is'.first r) (is'.firsts r hr) i l there))
    (entry_is shape m parents w.second g (fits r hr).second (is.second r) (is.seconds r hr) i l there
    ∙ sym (entry_is shape m parents w.second g (fits r hr).second (is'.second r) (is'.seconds r hr) i l there))))
    ∙ sym (row_entries shape m k turn J' parents fit fits is' r c hr hc))
