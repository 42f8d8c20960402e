-- What the equations of motion are made of is linear.
use Rattle.std.proofs.Common.{ℕ, zero, suc, ◌+◌, ◌-◌, ◌<◌, ◌==◌, Bool, true, false, if◌then◌else◌, Option, None, Some, [], ◌∷◌, refl, arith}
use Rattle.rb_frac.specs.Ops.{V3, sum, vadd, vscale, vdot, vcross}
use Rattle.rb_frac.specs.Frac.{Frac, Same, fracs, add, mul}
use Rattle.rb_frac.specs.Tables.{Symmetric, table_times}
use Rattle.rb_frac.specs.Spatial.{Spatial, Motion, Force, Place, Spatials}
use Rattle.rb_frac.specs.Mechanics.{plus, scaled, combined, in_body, in_parent, motion_product, power_of, newton, euler, needed}
use Rattle.rb_frac.proofs.Ring.{Expr, expr, var}
use Rattle.rb_frac.proofs.Reduce.{same_refl, same_trans}
use Rattle.rb_frac.proofs.Rational.{add_same, mul_same}
use Rattle.rb_frac.proofs.Hom.{frac_ring}
use Rattle.rb_frac.proofs.Variables.{vector, symmetric, spatial, place, of_vector, of_symmetric, of_spatial, of_place, at, identity}
use Rattle.rb_flat.specs.Shape.{Shape}
use Rattle.rb_flat.specs.Joint.{column_count}
use Rattle.rb_flat.specs.Mechanism.{Mechanism}
use Rattle.rb_flat.specs.Dynamics.{follows, none, spatial_sum, followed, joint_motion, children_force, column_power, followers_power, torque_of}
use Rattle.rb_flat.proofs.Equality.{same_fractions, sum_same, spatials_refl, spatials_trans, plus_same, scaled_same, spatial_sum_same}

-- k x + y
abbrev pub blend : Frac → Frac → Frac → Frac
blend k x y = add (mul k x) y

-- ---- numbers
blend-blend : (k a b c d : Frac) → Same (add (blend k a b) (blend k c d)) (blend k (add a c) (add b d))
blend-blend k a b c d =
    frac_ring (at (k ∷ a ∷ b ∷ c ∷ d ∷ []))
    (expr.add (expr.add (expr.mul (var 0) (var 1)) (var 2)) (expr.add (expr.mul (var 0) (var 3)) (var 4)))
    (expr.add (expr.mul (var 0) (expr.add (var 1) (var 3))) (expr.add (var 2) (var 4)))
    refl

blend-mul : (k r a b : Frac) → Same (mul r (blend k a b)) (blend k (mul r a) (mul r b))
blend-mul k r a b =
    frac_ring (at (k ∷ r ∷ a ∷ b ∷ []))
    (expr.mul (var 1) (expr.add (expr.mul (var 0) (var 2)) (var 3)))
    (expr.add (expr.mul (var 0) (expr.mul (var 1) (var 2))) (expr.mul (var 1) (var 3)))
    refl

blend-zero : (k : Frac) → Same fracs.nul (blend k fracs.nul fracs.nul)
blend-zero k = frac_ring (at (k ∷ [])) expr.nul (expr.add (expr.mul (var 0) expr.nul) expr.nul) refl

sum-linear : (n : ℕ) (k : Frac) (f g : ℕ → Frac) → Same (sum fracs n (λ i. blend k (f i) (g i))) (blend k (sum fracs n f) (sum fracs n g))
unfolding sum
sum-linear zero k f g = blend-zero k
sum-linear (suc n) k f g =
    let s = sum fracs n f in
    let t = sum fracs n g in
    let last = blend k (f n) (g n) in
    same_trans (add (sum fracs n (λ i. blend k (f i) (g i))) last) (add (blend k s t) last) (blend k (add s (f n)) (add t (g n)))
    (add_same (sum fracs n (λ i. blend k (f i) (g i))) (blend k s t) last last (sum-linear n k f g) (same_refl last))
    (blend-blend k s t (f n) (g n))

-- ---- motions and forces
pub in_body-linear : (x : Place Frac) (k : Frac) (a b : Motion Frac) → Spatials Same (in_body fracs x (combined fracs k a b)) (combined fracs k (in_body fracs x a) (in_body fracs x b))
unfolding in_body table_times plus scaled vadd vscale vdot vcross
in_body-linear x k a b =
    identity (k ∷ of_place x (of_spatial a (of_spatial b [])))
    (in_body expr (place 1) (combined expr (var 0) (spatial 13) (spatial 19)))
    (combined expr (var 0) (in_body expr (place 1) (spatial 13)) (in_body expr (place 1) (spatial 19)))
    (refl, refl, refl) (refl, refl, refl)

in_parent-linear : (x : Place Frac) (k : Frac) (a b : Force Frac) → Spatials Same (in_parent fracs x (combined fracs k a b)) (combined fracs k (in_parent fracs x a) (in_parent fracs x b))
unfolding in_parent table_times plus scaled vadd vscale vdot vcross
in_parent-linear x k a b =
    identity (k ∷ of_place x (of_spatial a (of_spatial b [])))
    (in_parent expr (place 1) (combined expr (var 0) (spatial 13) (spatial 19)))
    (combined expr (var 0) (in_parent expr (place 1) (spatial 13)) (in_parent expr (place 1) (spatial 19)))
    (refl, refl, refl) (refl, refl, refl)

power-linear : (m : Motion Frac) (k : Frac) (f g : Force Frac) → Same (power_of fracs m (combined fracs k f g)) (blend k (power_of fracs m f) (power_of fracs m g))
unfolding power_of plus scaled vadd vscale vdot
power-linear m k f g =
    frac_ring (at (k ∷ of_spatial m (of_spatial f (of_spatial g []))))
    (power_of expr (spatial 1) (combined expr (var 0) (spatial 7) (spatial 13)))
    (expr.add (expr.mul (var 0) (power_of expr (spatial 1) (spatial 7))) (power_of expr (spatial 1) (spatial 13)))
    refl

-- what a body needs: the acceleration alone adds
pub needed-linear : (m : Frac) (c : V3 Frac) (ic : Symmetric Frac) (v : Motion Frac) (k : Frac) (a b : Motion Frac)
    → Spatials Same (needed fracs m c ic v (combined fracs k a b)) (combined fracs k (needed fracs m c ic (none fracs) a) (needed fracs m c ic v b))
unfolding needed newton euler table_times plus scaled vadd vscale vdot vcross
needed-linear m c ic v k a b =
    let need = λ (v a : Motion Expr). needed expr (var 1) (vector 2) (symmetric 5) v a in
    identity (k ∷ m ∷ of_vector c (of_symmetric ic (of_spatial v (of_spatial a (of_spatial b [])))))
    (need (spatial 11) (combined expr (var 0) (spatial 17) (spatial 23)))
    (combined expr (var 0) (need (none expr) (spatial 17)) (need (spatial 11) (spatial 23)))
    (refl, refl, refl) (refl, refl, refl)

scaled-linear : (k x y : Frac) (c : Motion Frac) → Spatials Same (scaled fracs (blend k x y) c) (combined fracs k (scaled fracs x c) (scaled fracs y c))
unfolding plus scaled vadd vscale
scaled-linear k x y c =
    identity (k ∷ x ∷ y ∷ of_spatial c [])
    (scaled expr (expr.add (expr.mul (var 0) (var 1)) (var 2)) (spatial 3))
    (combined expr (var 0) (scaled expr (var 1) (spatial 3)) (scaled expr (var 2) (spatial 3)))
    (refl, refl, refl) (refl, refl, refl)

pub plus-linear : (k : Frac) (a b c d : Spatial Frac) → Spatials Same (plus fracs (combined fracs k a b) (combined fracs k c d)) (combined fracs k (plus fracs a c) (plus fracs b d))
unfolding plus scaled vadd vscale
plus-linear k a b c d =
    identity (k ∷ of_spatial a (of_spatial b (of_spatial c (of_spatial d []))))
    (plus expr (combined expr (var 0) (spatial 1) (spatial 7)) (combined expr (var 0) (spatial 13) (spatial 19)))
    (combined expr (var 0) (plus expr (spatial 1) (spatial 13)) (plus expr (spatial 7) (spatial 19)))
    (refl, refl, refl) (refl, refl, refl)

-- what is added to the second alone stays
pub plus-beside : (k : Frac) (a b c : Spatial Frac) → Spatials Same (plus fracs (combined fracs k a b) c) (combined fracs k a (plus fracs b c))
unfolding plus scaled vadd vscale
plus-beside k a b c =
    identity (k ∷ of_spatial a (of_spatial b (of_spatial c [])))
    (plus expr (combined expr (var 0) (spatial 1) (spatial 7)) (spatial 13))
    (combined expr (var 0) (spatial 1) (plus expr (spatial 7) (spatial 13)))
    (refl, refl, refl) (refl, refl, refl)

pub none-linear : (k : Frac) → Spatials Same (none fracs) (combined fracs k (none fracs) (none fracs))
unfolding plus scaled vadd vscale
none-linear k = identity (k ∷ []) (none expr) (combined expr (var 0) (none expr) (none expr)) (refl, refl, refl) (refl, refl, refl)

pub combined-none : (k : Frac) (a : Spatial Frac) → Spatials Same (combined fracs k (none fracs) a) a
unfolding plus scaled vadd vscale
combined-none k a =
    identity (k ∷ of_spatial a []) (combined expr (var 0) (none expr) (spatial 1)) (spatial 1) (refl, refl, refl) (refl, refl, refl)

pub plus-none : (a : Spatial Frac) → Spatials Same (plus fracs a (none fracs)) a
unfolding plus vadd
plus-none a = identity (of_spatial a []) (plus expr (spatial 0) (none expr)) (spatial 0) (refl, refl, refl) (refl, refl, refl)

pub in_body-none : (x : Place Frac) → Spatials Same (in_body fracs x (none fracs)) (none fracs)
unfolding in_body table_times vadd vdot vcross
in_body-none x = identity (of_place x []) (in_body expr (place 0) (none expr)) (none expr) (refl, refl, refl) (refl, refl, refl)

pub product-none : (v : Motion Frac) → Spatials Same (motion_product fracs v (none fracs)) (none fracs)
unfolding motion_product vadd vcross
product-none v =
    identity (of_spatial v []) (motion_product expr (spatial 0) (none expr)) (none expr) (refl, refl, refl) (refl, refl, refl)

scaled-nothing : (c : Motion Frac) → Spatials Same (scaled fracs fracs.nul c) (none fracs)
unfolding scaled vscale
scaled-nothing c = identity (of_spatial c []) (scaled expr expr.nul (spatial 0)) (none expr) (refl, refl, refl) (refl, refl, refl)

-- ---- sums
spatial_sum-linear : (n : ℕ) (k : Frac) (f g : ℕ → Spatial Frac) → Spatials Same (spatial_sum fracs n (λ i. combined fracs k (f i) (g i))) (combined fracs k (spatial_sum fracs n f) (spatial_sum fracs n g))
unfolding spatial_sum
spatial_sum-linear zero k f g = none-linear k
spatial_sum-linear (suc n) k f g =
    spatials_trans same_fractions (plus_same same_fractions (spatial_sum-linear n k f g) (spatials_refl same_fractions _))
    (plus-linear k (spatial_sum fracs n f) (spatial_sum fracs n g) (f n) (g n))

spatial_sum-none : (n : ℕ) (f : ℕ → Spatial Frac) → ((k : ℕ) → k < n → Spatials Same (f k) (none fracs)) → Spatials Same (spatial_sum fracs n f) (none fracs)
unfolding spatial_sum
spatial_sum-none zero f h = spatials_refl same_fractions (none fracs)
spatial_sum-none (suc n) f h =
    spatials_trans same_fractions (plus_same same_fractions (spatial_sum-none n f (λ k l. h k (omega arith))) (h n (omega arith))) (plus-none (none fracs))

-- ---- of a tree
followed-linear : (mimic : Option ℕ) (r k x y : Frac) → Same (followed fracs mimic r (blend k x y)) (blend k (followed fracs mimic r x) (followed fracs mimic r y))
followed-linear None r k x y = same_refl (blend k x y)
followed-linear (Some master) r k x y = blend-mul k r x y

followed-zero : (mimic : Option ℕ) (r : Frac) → Same (followed fracs mimic r fracs.nul) fracs.nul
followed-zero None r = same_refl fracs.nul
followed-zero (Some master) r = frac_ring (at (r ∷ [])) (expr.mul (var 0) expr.nul) expr.nul refl

module _ (shape : Shape) (m : Mechanism Frac) where
  pub joint_motion-linear : (i : ℕ) (k : Frac) (f g : ℕ → Frac) → Spatials Same (joint_motion fracs shape m (λ c. blend k (f c) (g c)) i) (combined fracs k (joint_motion fracs shape m f i) (joint_motion fracs shape m g i))
  unfolding joint_motion
  joint_motion-linear i k f g =
      spatials_trans same_fractions
      (spatial_sum_same same_fractions _ _ _ (λ j l. spatials_trans same_fractions
      (scaled_to (followed fracs (shape.mimic i) (m.multiplier i) (blend k (f (shape.first_column i + j)) (g (shape.first_column i + j)))) (blend k (followed fracs (shape.mimic i) (m.multiplier i) (f (shape.first_column i + j))) (followed fracs (shape.mimic i) (m.multiplier i) (g (shape.first_column i + j)))) (m.column i j) (followed-linear (shape.mimic i) (m.multiplier i) k (f (shape.first_column i + j)) (g (shape.first_column i + j))))
      (scaled-linear k _ _ (m.column i j))))
      (spatial_sum-linear (column_count (shape.kind i)) k _ _)
    where
      scaled_to : (x y : Frac) (c : Motion Frac) → Same x y → Spatials Same (scaled fracs x c) (scaled fracs y c)
      scaled_to x y c h = scaled_same same_fractions {k = x} {k' = y} h (spatials_refl same_fractions c)

  pub joint_motion-still : (i : ℕ) → Spatials Same (joint_motion fracs shape m (λ c. fracs.nul) i) (none fracs)
  unfolding joint_motion
  joint_motion-still i =
      spatial_sum-none _ _ (λ k l. spatials_trans same_fractions
      (scaled_same same_fractions {k = followed fracs (shape.mimic i) (m.multiplier i) fracs.nul} {k' = fracs.nul} (followed-zero (shape.mimic i) (m.multiplier i)) (spatials_refl same_fractions (m.column i k)))
      (scaled-nothing (m.column i k)))

  pub children-linear : (i : ℕ) (k : Frac) (f g : ℕ → Force Frac) → Spatials Same (children_force fracs shape m (λ j. combined fracs k (f j) (g j)) i) (combined fracs k (children_force fracs shape m f i) (children_force fracs shape m g i))
  unfolding children_force
  children-linear i k f g =
      spatials_trans same_fractions (spatial_sum_same same_fractions _ _ _ (λ j l. child j (shape.parent (suc j) == i)))
      (spatial_sum-linear shape.bodies k _ _)
    where
      child : (j : ℕ) (b : Bool) → Spatials Same
          (if b then in_parent fracs (m.place (suc j)) (combined fracs k (f (suc j)) (g (suc j))) else none fracs)
          (combined fracs k (if b then in_parent fracs (m.place (suc j)) (f (suc j)) else none fracs) (if b then in_parent fracs (m.place (suc j)) (g (suc j)) else none fracs))
      child j true = in_parent-linear _ k _ _
      child j false = none-linear k

  abbrev chosen : (ℕ → Force Frac) → ℕ → ℕ → Bool → Frac
  chosen f r j b = if b then mul (m.multiplier (suc j)) (column_power fracs shape m f (suc j) r) else fracs.nul

  chosen-linear : (r : ℕ) (k : Frac) (f g : ℕ → Force Frac) (j : ℕ) (b : Bool) → Same (chosen (λ j. combined fracs k (f j) (g j)) r j b) (blend k (chosen f r j b) (chosen g r j b))
  chosen-linear r k f g j true =
      let p = column_power fracs shape m f (suc j) r in
      let q = column_power fracs shape m g (suc j) r in
      let both = column_power fracs shape m (λ j. combined fracs k (f j) (g j)) (suc j) r in
      let x = m.multiplier (suc j) in
      same_trans (mul x both) (mul x (blend k p q)) (blend k (mul x p) (mul x q))
      (mul_same x x both (blend k p q) (same_refl x) (power-linear (m.column (suc j) r) k (f (suc j)) (g (suc j))))
      (blend-mul k x p q)
  chosen-linear r k f g j false = blend-zero k

  followers-linear : (i r : ℕ) (k : Frac) (f g : ℕ → Force Frac) → Same (followers_power fracs shape m (λ j. combined fracs k (f j) (g j)) i r) (blend k (followers_power fracs shape m f i r) (followers_power fracs shape m g i r))
  unfolding followers_power
  followers-linear i r k f g =
      let both = λ (j : ℕ). combined fracs k (f j) (g j) in
      let term = λ (h : ℕ → Force Frac) (j : ℕ). chosen h r j (follows (shape.mimic (suc j)) i) in
      let each = λ (j : ℕ). blend k (term f j) (term g j) in
      same_trans (sum fracs shape.bodies (term both)) (sum fracs shape.bodies each) (blend k (sum fracs shape.bodies (term f)) (sum fracs shape.bodies (term g)))
      (sum_same same_fractions shape.bodies (term both) each (λ j l. chosen-linear r k f g j (follows (shape.mimic (suc j)) i)))
      (sum-linear shape.bodies k (term f) (term g))

  pub torque-linear : (c : ℕ) (k : Frac) (f g : ℕ → Force Frac) → Same (torque_of fracs shape m (λ j. combined fracs k (f j) (g j)) c) (blend k (torque_of fracs shape m f c) (torque_of fracs shape m g c))
  unfolding torque_of
  torque-linear c k f g =
      let i = shape.owner c in
      let r = c - shape.first_column i in
      let both = λ (j : ℕ). combined fracs k (f j) (g j) in
      let own = λ (h : ℕ → Force Frac). column_power fracs shape m h i r in
      let other = λ (h : ℕ → Force Frac). followers_power fracs shape m h i r in
      same_trans (add (own both) (other both)) (add (blend k (own f) (own g)) (blend k (other f) (other g))) (blend k (add (own f) (other f)) (add (own g) (other g)))
      (add_same (own both) (blend k (own f) (own g)) (other both) (blend k (other f) (other g)) (power-linear (m.column i r) k (f i) (g i)) (followers-linear i r k f g))
      (blend-blend k (own f) (own g) (other f) (other g))
