-- What the children of a body add, in descending number, to inertias or to forces.
use Rattle.std.proofs.Common.{◌≡◌, ℕ, suc, ◌+◌, ◌-◌, ◌<◌, ◌≤◌, ◌==◌, Bool, true, false, if◌then◌else◌, Result, Ok, [], refl, subst, arith}
use Rattle.rb_sweep.specs.Sweep.{sweep, downward, counting_down}
use Rattle.rb_frac.specs.Ops.{vadd}
use Rattle.rb_frac.specs.Frac.{Frac, Same, fracs}
use Rattle.rb_frac.specs.Spatial.{Spatial, Spatials}
use Rattle.rb_frac.specs.Mechanics.{plus}
use Rattle.rb_frac.proofs.Ring.{expr}
use Rattle.rb_frac.proofs.Variables.{spatial, of_spatial, identity}
use Rattle.rb_num.specs.declared.interval.NumFault.{NumFault}
use Rattle.rb_num.specs.Fraction.{LiesIn}
use Rattle.rb_flat.specs.Shape.{Shape, HasBody, ParentsComeFirst}
use Rattle.rb_flat.specs.Dynamics.{none, spatial_sum}
use Rattle.rb_flat.proofs.Equality.{same_fractions, spatials_refl, spatials_sym, spatials_trans, plus_same}
use Rattle.rb_composite.proofs.Paths.{equal_is}
use Rattle.rb_joint.proofs.JointMotionLies.{spatials_same}
use Rattle.rb_rnea.proofs.Sweeps.{plus-none, plus-last}
use Rattle.rb_rnea.proofs.ForcesLie.{downward_is}
use Rattle.rb_composite.proofs.Adding.{Sums, Adds, adds_same, adds_if, adds_down, total_late}

-- ---- forces and motions
pub plus-grouped : (x y z : Spatial Frac) → Spatials Same (plus fracs (plus fracs x y) z) (plus fracs x (plus fracs y z))
unfolding plus vadd
plus-grouped x y z =
    identity (of_spatial x (of_spatial y (of_spatial z [])))
    (plus expr (plus expr (spatial 0) (spatial 6)) (spatial 12))
    (plus expr (spatial 0) (plus expr (spatial 6) (spatial 12)))
    (refl, refl, refl) (refl, refl, refl)

pub spatial_sum-zero : (f : ℕ → Spatial Frac) → spatial_sum fracs 0 f ≡ none fracs
unfolding spatial_sum
spatial_sum-zero f = refl

pub spatial_sum-suc : (n : ℕ) (f : ℕ → Spatial Frac) → spatial_sum fracs (suc n) f ≡ plus fracs (spatial_sum fracs n f) (f n)
unfolding spatial_sum
spatial_sum-suc n f = refl

abbrev pub spatials : Sums (Spatials LiesIn)
spatials = record {
  same = Spatials Same;
  plus = plus fracs;
  nul = none fracs;
  total = spatial_sum fracs;
  itself = spatials_refl same_fractions;
  back = λ x y h. spatials_sym same_fractions h;
  along = λ x y z h k. spatials_trans same_fractions h k;
  moved = λ x y v h l. spatials_same h l;
  plus_same = λ x y z t h k. plus_same same_fractions h k;
  plus_nul = plus-none;
  grouped = plus-grouped;
  swapped = plus-last;
  total_zero = spatial_sum-zero;
  total_suc = spatial_sum-suc;
}

-- ---- children
module _ {A B : Type 0} {lies : A → B → Type 0} (S : Sums lies) (shape : Shape) (parents : ParentsComeFirst shape) (brought : ℕ → A) (step : ℕ → B → Result B NumFault) where
  -- body j adds to what body i bears where it is a child of body i
  abbrev share : ℕ → ℕ → A
  share i j = if shape.parent j == i then brought j else S.nul

  abbrev add_child : ℕ → ℕ → B → Result B NumFault
  add_child i j v = if shape.parent j == i then step j v else Ok v

  -- a body up to i is none of its children
  none_early : (i k : ℕ) → i ≤ shape.bodies → k < i → S.same (share i (suc k)) S.nul
  none_early i k h l = go (shape.parent (suc k) == i) refl
    where
      go : (b : Bool) → (shape.parent (suc k) == i) ≡ b → S.same (if b then brought (suc k) else S.nul) S.nul
      go true e =
          let same : shape.parent (suc k) ≡ i = equal_is (shape.parent (suc k)) i e in
          let first : shape.parent (suc k) < suc k = parents (suc k) (record { from = omega arith; to = omega arith }) in
          absurd (omega arith)
      go false e = S.itself S.nul

  pub adds_children : (i : ℕ) → HasBody shape i → ((j : ℕ) → HasBody shape j → shape.parent j ≡ i → Adds S (brought j) (step j))
      → Adds S (S.total shape.bodies (λ k. if shape.parent (suc k) == i then brought (suc k) else S.nul))
      (λ v. sweep (λ j v. if shape.parent j == i then step j v else Ok v) (downward (i + 1) (shape.bodies + 1)) v)
  adds_children i there each =
      let h : i ≤ shape.bodies = there.to in
      let n = shape.bodies - i in
      let e : i + n ≡ shape.bodies = omega arith in
      rw (downward_is i shape.bodies h)
      (subst (λ (t : ℕ). Adds S (S.total t (λ k. share i (suc k))) (λ v. sweep (add_child i) (counting_down (suc i) n) v)) e
      (adds_same S (S.total n (λ k. share i (suc (i + k)))) (S.total (i + n) (λ k. share i (suc k))) (λ v. sweep (add_child i) (counting_down (suc i) n) v)
      (total_late S i n (λ k. share i (suc k)) (λ k l. none_early i k h l))
      (adds_down S (add_child i) (λ k. share i (suc (i + k))) (suc i) n (λ k l. one k l))))
    where
      body : (k : ℕ) → k < shape.bodies - i → HasBody shape (suc (i + k))
      body k l = let h : i ≤ shape.bodies = there.to in record { from = omega arith; to = omega arith }

      one : (k : ℕ) → k < shape.bodies - i → Adds S (share i (suc (i + k))) (add_child i (suc i + k))
      one k l =
          let e : suc (i + k) ≡ suc i + k = omega arith in
          let j = suc (i + k) in
          subst (λ (c : ℕ). Adds S (share i (suc (i + k))) (add_child i c)) e
          (adds_if S (shape.parent j == i) (brought j) (step j) (λ b. each j (body k l) (equal_is (shape.parent j) i b)))
