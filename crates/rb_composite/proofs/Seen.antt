-- A force on a body as the bodies above it see it, and its power at the accelerations of a tree.
use Rattle.std.proofs.Common.{◌≡◌, ℕ, zero, suc, ◌+◌, ◌≤◌, ◌==◌, Bool, true, false, if◌then◌else◌, refl, sym, ◌∙◌, ap, arith}
use Rattle.rb_frac.specs.Frac.{Frac, fracs}
use Rattle.rb_frac.specs.Spatial.{Motion, Force}
use Rattle.rb_frac.specs.Mechanics.{in_body}
use Rattle.rb_frac.proofs.Rational.{ℚ, ◌+ℚ◌, 0ℚ, qo, rats, add_comm, add_nul, add_assoc}
use Rattle.rb_frac.proofs.Sums.{sum, sum_ext, sum_swap}
use Rattle.rb_num.specs.Arith.{fractions}
use Rattle.rb_spatial.specs.Motions.{apply_dual}
use Rattle.rb_spatial.specs.Inertias.{times}
use Rattle.rb_frac.specs.Spatial.{Inertia}
use Rattle.rb_flat.specs.Shape.{Shape, ParentsComeFirst}
use Rattle.rb_flat.specs.Mechanism.{Mechanism}
use Rattle.rb_flat.specs.Dynamics.{Unknowns, joint_motion}
use Rattle.rb_flat.proofs.Powers.{power, sum_none, sum_one}
use Rattle.rb_flat.proofs.VirtualWork.{if_zero, if_is}
use Rattle.rb_flat.proofs.Superposed.{Added}
use Rattle.rb_composite.specs.Composite.{above, ancestor, IsOnPath, carried}
use Rattle.rb_composite.proofs.Forms.{power-carried, power-same_first, power-plus_first, power-none_first, form_is, form-swap}
use Rattle.rb_composite.proofs.Functionals.{IsLinear, linear-power, linear-like, linear-if, linear-sum}
use Rattle.rb_composite.proofs.Paths.{met_once, path_falls, path_within, path_ends}

module _ (shape : Shape) (m : Mechanism Frac) where
  -- a motion of the body so many steps above body i, as body i moves then
  lowered : ℕ → ℕ → Motion Frac → Motion Frac
  lowered i zero w = w
  lowered i (suc n) w = lowered i n (in_body fracs (m.place (ancestor shape i n)) w)

  power-lowered : (i n : ℕ) (f : Force Frac) (w : Motion Frac) → power w (carried shape m i f n) ≡ power (lowered i n w) f
  unfolding carried lowered
  power-lowered i zero f w = refl
  power-lowered i (suc n) f w =
      power-carried (m.place (ancestor shape i n)) w (carried shape m i f n) ∙ power-lowered i n f (in_body fracs (m.place (ancestor shape i n)) w)

  -- the power that the force f on body i has at the motion w of body j above it; zero where body j is not on the path of body i
  pub seen : ℕ → ℕ → Force Frac → Motion Frac → ℚ
  seen i j f w = sum qo shape.bodies (λ n. if ancestor shape i n == j then power w (carried shape m i f n) else 0ℚ)

  pub seen-linear : (i j : ℕ) (f : Force Frac) → IsLinear (seen i j f)
  unfolding seen
  seen-linear i j f =
      linear-sum shape.bodies (λ n w. if ancestor shape i n == j then power w (carried shape m i f n) else 0ℚ)
      (λ n. linear-if (ancestor shape i n == j) (linear-power (carried shape m i f n)))

  -- and linear in the motion for which the inertia needs the force
  back : (i n : ℕ) (x : Inertia Frac) (u w : Motion Frac) → power u (times fractions x (lowered i n w)) ≡ power w (carried shape m i (times fractions x u) n)
  back i n x u w =
      sym (form_is x u (lowered i n w)) ∙ form-swap x u (lowered i n w) ∙ form_is x (lowered i n w) u ∙ sym (power-lowered i n (times fractions x u) w)

  pub seen-linear_first : (i j : ℕ) (x : Inertia Frac) (w : Motion Frac) → IsLinear (λ u. seen i j (times fractions x u) w)
  unfolding seen
  seen-linear_first i j x w =
      linear-sum shape.bodies (λ n u. if ancestor shape i n == j then power w (carried shape m i (times fractions x u) n) else 0ℚ)
      (λ n. linear-if (ancestor shape i n == j) (linear-like (λ u. back i n x u w) (linear-power (times fractions x (lowered i n w)))))

  -- body j is not on the path
  pub seen-apart : (i j : ℕ) (f : Force Frac) (w : Motion Frac) → (IsOnPath shape i j → ⊥) → seen i j f w ≡ 0ℚ
  unfolding seen
  seen-apart i j f w h = sum_none shape.bodies _ (λ n l. if_zero (ancestor shape i n == j) _ (never n (ancestor shape i n == j) refl))
    where
      never : (n : ℕ) (b : Bool) → (ancestor shape i n == j) ≡ b → (ancestor shape i n == j) ≡ false
      never n true e = absurd (h (n, (let same : ancestor shape i n ≡ j = grind arith in same)))
      never n false e = e

  module _ (parents : ParentsComeFirst shape) where
    -- it is, so many steps above
    pub seen-at : (i n : ℕ) (f : Force Frac) (w : Motion Frac) → i ≤ shape.bodies → 1 ≤ ancestor shape i n → seen i (ancestor shape i n) f w ≡ power w (carried shape m i f n)
    unfolding seen
    seen-at i n f w l some =
        let j = ancestor shape i n in
        let fall : j + n ≤ i = path_falls shape parents i n l some in
        sum_one shape.bodies n (λ k. if ancestor shape i k == j then power w (carried shape m i f k) else 0ℚ) (omega (arith, fall, l, some))
        (λ k r e. if_zero (ancestor shape i k == j) _ (other k e (ancestor shape i k == j) refl))
        ∙ if_is (j == j) _ (let itself : (j == j) ≡ true = grind arith in itself)
      where
        other : (k : ℕ) → (k == n) ≡ false → (b : Bool) → (ancestor shape i k == ancestor shape i n) ≡ b → (ancestor shape i k == ancestor shape i n) ≡ false
        other k e false d = d
        other k e true d =
            let same : ancestor shape i k ≡ ancestor shape i n = grind arith in
            let once : k ≡ n = met_once shape parents i (ancestor shape i n) n k l some refl same in
            absurd (let differ : ¬ (k ≡ n) = grind arith in differ once)

    -- ---- the power at what accelerations of the joints add
    module _ (u : Unknowns Frac) (hu : Added shape m u) where
      abbrev motion : ℕ → Motion Frac
      motion = joint_motion fracs shape m u.joint_acceleration

      over : ℕ → Force Frac → ℚ
      over zero g = 0ℚ
      over (suc a) g = power (motion (suc a)) g

      at_world : (g : Force Frac) → power (u.acceleration 0) g ≡ 0ℚ
      at_world g = power-same_first g hu.world ∙ power-none_first g

      one_step : (a : ℕ) (g : Force Frac) → a ≤ shape.bodies → power (u.acceleration a) g ≡ over a g +ℚ power (u.acceleration (above shape a)) (apply_dual fractions (m.place a) g)
      unfolding over
      one_step zero g l = at_world g ∙ sym (add_comm 0ℚ _ ∙ add_nul _ ∙ at_world (apply_dual fractions (m.place 0) g))
      one_step (suc a) g l =
          let up = u.acceleration (shape.parent (suc a)) in
          power-same_first g (hu.accelerations (suc a) (record { from = omega arith; to = l }))
          ∙ power-plus_first (in_body fracs (m.place (suc a)) up) (motion (suc a)) g
          ∙ add_comm (power (in_body fracs (m.place (suc a)) up) g) (power (motion (suc a)) g)
          ∙ ap (λ (t : ℚ). power (motion (suc a)) g +ℚ t) (sym (power-carried (m.place (suc a)) up g))

      climbed : (i : ℕ) (f : Force Frac) → i ≤ shape.bodies → (n : ℕ)
          → power (u.acceleration i) f ≡ sum qo n (λ k. over (ancestor shape i k) (carried shape m i f k)) +ℚ power (u.acceleration (ancestor shape i n)) (carried shape m i f n)
      unfolding sum ancestor carried
      climbed i f l zero = sym (add_comm 0ℚ (power (u.acceleration i) f) ∙ add_nul (power (u.acceleration i) f))
      climbed i f l (suc n) =
          climbed i f l n
          ∙ ap (λ (t : ℚ). sum qo n (λ k. over (ancestor shape i k) (carried shape m i f k)) +ℚ t) (one_step (ancestor shape i n) (carried shape m i f n) (path_within shape parents i n l))
          ∙ sym (add_assoc (sum qo n (λ k. over (ancestor shape i k) (carried shape m i f k))) _ _)

      spread : (a : ℕ) (g : Force Frac) → a ≤ shape.bodies → over a g ≡ sum qo shape.bodies (λ j. if a == suc j then power (motion (suc j)) g else 0ℚ)
      unfolding over
      spread zero g l = sym (sum_none shape.bodies _ (λ j r. if_zero (0 == suc j) _ (let no : (0 == suc j) ≡ false = grind arith in no)))
      spread (suc a) g l =
          sym (sum_one shape.bodies a (λ j. if suc a == suc j then power (motion (suc j)) g else 0ℚ) l (λ j r e. if_zero (suc a == suc j) _ (let no : (suc a == suc j) ≡ false = grind arith in no))
          ∙ if_is (suc a == suc a) _ (let itself : (suc a == suc a) ≡ true = grind arith in itself))

      pub power-climbs : (i : ℕ) (f : Force Frac) → i ≤ shape.bodies → power (u.acceleration i) f ≡ sum qo shape.bodies (λ j. seen i (suc j) f (motion (suc j)))
      unfolding seen
      power-climbs i f l =
          climbed i f l shape.bodies
          ∙ ap (λ (t : ℚ). sum qo shape.bodies (λ k. over (ancestor shape i k) (carried shape m i f k)) +ℚ t)
          (ap (λ (a : ℕ). power (u.acceleration a) (carried shape m i f shape.bodies)) (path_ends shape parents i l) ∙ at_world (carried shape m i f shape.bodies))
          ∙ add_nul _
          ∙ sum_ext qo shape.bodies _ _ (λ k r. spread (ancestor shape i k) (carried shape m i f k) (path_within shape parents i k l))
          ∙ sum_swap rats shape.bodies shape.bodies (λ k j. if ancestor shape i k == suc j then power (motion (suc j)) (carried shape m i f k) else 0ℚ)
