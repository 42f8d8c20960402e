-- The sum over all pairs of joint columns is the sum over each pair once, along the paths to the world.
use Rattle.std.proofs.Common.{◌≡◌, ℕ, zero, suc, ◌+◌, ◌<◌, ◌≤◌, ◌==◌, Bool, true, false, if◌then◌else◌, refl, sym, ◌∙◌, ap, arith}
use mathlib.Core.Path.{ap₂}
use mathlib.Core.Logic.{◌⊎◌, inl, inr}
use Rattle.rb_frac.specs.Ops.{sum as sum_of}
use Rattle.rb_frac.specs.Frac.{Frac, fracs, add, mul}
use Rattle.rb_frac.specs.Spatial.{Inertia}
use Rattle.rb_frac.proofs.Ring.{mul_nul}
use Rattle.rb_frac.proofs.Rational.{ℚ, ◌+ℚ◌, ◌*ℚ◌, 0ℚ, qo, rats, cls, sound, exact, cls-zero, add_assoc, mul_comm_ℚ}
use Rattle.rb_frac.proofs.Hom.{cls_of_add, cls_of_mul}
use Rattle.rb_frac.proofs.Quote.{with3, with4, finish, quote}
use Rattle.rb_frac.proofs.Sums.{sum, sum_ext, sum-add, sum_swap}
use Rattle.rb_frac.proofs.Transfer.{cls-sum}
use Rattle.rb_flat.specs.Shape.{Shape, HasBody, ParentsComeFirst}
use Rattle.rb_flat.specs.Mechanism.{Mechanism}
use Rattle.rb_flat.proofs.Powers.{sum_none, sum_one}
use Rattle.rb_flat.proofs.VirtualWork.{if_zero, if_is}
use Rattle.rb_composite.specs.Composite.{ancestor, IsOnPath, AreApart, HasJointColumn, over_joints, over_above, ArePairs, share, shared, gathered, gathered_once}
use Rattle.rb_composite.specs.Laws.{EachPairOnce}
use Rattle.rb_composite.proofs.Joints.{count, cls-over_joints}
use Rattle.rb_composite.proofs.Paths.{ancestor-here, path_falls, met_once, meets}

-- ---- sums over a square, each pair of places once
folded : (s a b e : ℚ) → (s +ℚ b) +ℚ (a +ℚ e) ≡ s +ℚ (e +ℚ (a +ℚ b))
folded s a b e = with4 s a b e λ ρ x y z w. simp (x, y, z, w, quote) (finish ρ _ _ refl)

triangle : (n : ℕ) (f : ℕ → ℕ → ℚ) → sum qo n (λ i. sum qo n (f i)) ≡ sum qo n (λ i. f i i +ℚ sum qo i (λ j. f i j +ℚ f j i))
unfolding sum
triangle zero f = refl
triangle (suc n) f =
    ap (λ (t : ℚ). t +ℚ (sum qo n (f n) +ℚ f n n)) (sum-add rats n (λ i. sum qo n (f i)) (λ i. f i n))
    ∙ folded (sum qo n (λ i. sum qo n (f i))) (sum qo n (f n)) (sum qo n (λ i. f i n)) (f n n)
    ∙ ap₂ ◌+ℚ◌ (triangle n f) (ap (λ (t : ℚ). f n n +ℚ t) (sym (sum-add rats n (f n) (λ j. f j n))))

distributed : (x y p : ℚ) → (x +ℚ y) *ℚ p ≡ x *ℚ p +ℚ y *ℚ p
distributed x y p = with3 x y p λ ρ a b c. simp (a, b, c, quote) (finish ρ _ _ refl)

sum_if : (b : Bool) (n : ℕ) (f : ℕ → ℚ) → sum qo n (λ k. if b then 0ℚ else f k) ≡ (if b then 0ℚ else sum qo n f)
sum_if true n f = sum_none n (λ k. 0ℚ) (λ k l. refl)
sum_if false n f = refl

passed : (b : Bool) (x : ℚ) → b ≡ false → (if b then 0ℚ else x) ≡ x
passed b x e = ap (λ (c : Bool). if c then 0ℚ else x) e

cls_if : (b : Bool) (x : Frac) → cls (if b then fracs.nul else x) ≡ (if b then 0ℚ else cls x)
cls_if true x = cls-zero
cls_if false x = refl

module _ (shape : Shape) (m : Mechanism Frac) (inertia : ℕ → Inertia Frac) (pair : ℕ → ℕ → ℕ → ℕ → Frac) (parents : ParentsComeFirst shape)
    (pairs : ArePairs shape m inertia pair) (c d : ℕ) where
  -- what a pair adds, in one order and in both
  abbrev one_way : ℕ → ℕ → ℕ → ℕ → ℚ
  one_way i k j l = cls (shared shape m pair c d i k j l)

  abbrev two_ways : ℕ → ℕ → ℕ → ℕ → Frac
  two_ways i k j l = mul (add (mul (share shape m c i k) (share shape m d j l)) (mul (share shape m d i k) (share shape m c j l))) (pair i k j l)

  abbrev both : ℕ → ℕ → ℕ → ℕ → ℚ
  both i k j l = cls (two_ways i k j l)

  both-ways : (i k j l : ℕ) → HasJointColumn shape i k → HasJointColumn shape j l → both i k j l ≡ one_way i k j l +ℚ one_way j l i k
  both-ways i k j l hi hj =
      let first = mul (share shape m c i k) (share shape m d j l) in
      let second = mul (share shape m d i k) (share shape m c j l) in
      cls_of_mul (add first second) (pair i k j l)
      ∙ ap (λ (t : ℚ). t *ℚ cls (pair i k j l)) (cls_of_add first second)
      ∙ distributed (cls first) (cls second) (cls (pair i k j l))
      ∙ ap₂ ◌+ℚ◌ (sym (cls_of_mul first (pair i k j l)))
      (ap₂ ◌*ℚ◌
      (cls_of_mul (share shape m d i k) (share shape m c j l) ∙ mul_comm_ℚ (cls (share shape m d i k)) (cls (share shape m c j l)) ∙ sym (cls_of_mul (share shape m c j l) (share shape m d i k)))
      (sound (pair i k j l) (pair j l i k) (pairs.symmetric i k j l hi hj))
      ∙ sym (cls_of_mul (mul (share shape m c j l) (share shape m d i k)) (pair j l i k)))

  both-apart : (i k j l : ℕ) → HasJointColumn shape i k → HasJointColumn shape j l → AreApart shape i j → both i k j l ≡ 0ℚ
  both-apart i k j l hi hj apart =
      let x = add (mul (share shape m c i k) (share shape m d j l)) (mul (share shape m d i k) (share shape m c j l)) in
      cls_of_mul x (pair i k j l)
      ∙ ap (λ (t : ℚ). cls x *ℚ t) (sound (pair i k j l) fracs.nul (pairs.apart i k j l hi hj apart) ∙ cls-zero)
      ∙ mul_nul rats (cls x)

  -- ---- joint by joint
  abbrev block : ℕ → ℕ → ℚ
  block i j = sum qo (count shape i) (λ k. sum qo (count shape j) (one_way i k j))

  abbrev blocks : ℕ → ℕ → ℚ
  blocks i j = sum qo (count shape i) (λ k. sum qo (count shape j) (both i k j))

  own_block : (i : ℕ) → HasBody shape i → block i i ≡ sum qo (count shape i) (λ k. one_way i k i k +ℚ sum qo k (both i k i))
  own_block i there =
      triangle (count shape i) (λ k l. one_way i k i l)
      ∙ sum_ext qo (count shape i) _ _ (λ k r. ap (λ (t : ℚ). one_way i k i k +ℚ t)
      (sum_ext qo k _ _ (λ l q. sym (both-ways i k i l (record { there = there; below = r }) (record { there = there; below = omega arith })))))

  two_blocks : (i j : ℕ) → HasBody shape i → HasBody shape j → block i j +ℚ block j i ≡ blocks i j
  two_blocks i j hi hj =
      ap (λ (t : ℚ). block i j +ℚ t) (sum_swap rats (count shape j) (count shape i) (λ l k. one_way j l i k))
      ∙ sym (sum-add rats (count shape i) (λ k. sum qo (count shape j) (one_way i k j)) (λ k. sum qo (count shape j) (λ l. one_way j l i k)))
      ∙ sum_ext qo (count shape i) _ _ (λ k r.
      sym (sum-add rats (count shape j) (one_way i k j) (λ l. one_way j l i k))
      ∙ sum_ext qo (count shape j) _ _ (λ l q. sym (both-ways i k j l (record { there = hi; below = r }) (record { there = hj; below = q }))))

  apart_blocks : (i j : ℕ) → HasBody shape i → HasBody shape j → AreApart shape i j → blocks i j ≡ 0ℚ
  apart_blocks i j hi hj apart =
      sum_none (count shape i) _ (λ k r. sum_none (count shape j) (both i k j) (λ l q.
      both-apart i k j l (record { there = hi; below = r }) (record { there = hj; below = q }) apart))

  -- ---- the bodies with smaller numbers, and those of them on the path
  abbrev step : ℕ → ℕ → ℚ
  step i n = if ancestor shape i (suc n) == 0 then 0ℚ else blocks i (ancestor shape i (suc n))

  lands : (i n a : ℕ) → suc i ≤ shape.bodies → ancestor shape (suc i) (suc n) ≡ a
      → (if a == 0 then 0ℚ else blocks (suc i) a) ≡ sum qo i (λ j. if a == suc j then blocks (suc i) (suc j) else 0ℚ)
  lands i n zero l e =
      sym (sum_none i _ (λ j r. if_zero (0 == suc j) _ (let no : (0 == suc j) ≡ false = grind arith in no)))
  lands i n (suc b) l e =
      let fall : ancestor shape (suc i) (suc n) + suc n ≤ suc i = path_falls shape parents (suc i) (suc n) l (omega (arith, e)) in
      passed (suc b == 0) (blocks (suc i) (suc b)) (let no : (suc b == 0) ≡ false = grind arith in no)
      ∙ sym (sum_one i b (λ j. if suc b == suc j then blocks (suc i) (suc j) else 0ℚ) (omega (arith, e, fall)) (λ j r h. if_zero (suc b == suc j) _ (let no : (suc b == suc j) ≡ false = grind arith in no))
      ∙ if_is (suc b == suc b) _ (let itself : (suc b == suc b) ≡ true = grind arith in itself))

  met_by : (i j : ℕ) → suc i ≤ shape.bodies → j < i
      → sum qo shape.bodies (λ n. if ancestor shape (suc i) (suc n) == suc j then blocks (suc i) (suc j) else 0ℚ) ≡ blocks (suc i) (suc j)
  met_by i j l r = go (meets shape parents (suc i) (suc j) l (omega arith))
    where
      here : HasBody shape (suc i)
      here = record { from = omega arith; to = l }

      there : HasBody shape (suc j)
      there = record { from = omega arith; to = omega arith }

      value : ℚ
      value = blocks (suc i) (suc j)

      nothing_added : (b : Bool) → value ≡ 0ℚ → (if b then value else 0ℚ) ≡ 0ℚ
      nothing_added true e = e
      nothing_added false e = refl

      not_below : IsOnPath shape (suc j) (suc i) → ⊥
      not_below p =
          let at : ancestor shape (suc j) p.0 ≡ suc i = p.1 in
          let low : ancestor shape (suc j) p.0 + p.0 ≤ suc j = path_falls shape parents (suc j) p.0 there.to (omega (arith, at)) in
          omega (arith, at, low)

      go : IsOnPath shape (suc i) (suc j) ⊎ (IsOnPath shape (suc i) (suc j) → ⊥)
          → sum qo shape.bodies (λ n. if ancestor shape (suc i) (suc n) == suc j then blocks (suc i) (suc j) else 0ℚ) ≡ blocks (suc i) (suc j)
      go (inr h) =
          let none : value ≡ 0ℚ = apart_blocks (suc i) (suc j) here there (record { upward = h; downward = not_below }) in
          sum_none shape.bodies _ (λ n q. nothing_added (ancestor shape (suc i) (suc n) == suc j) none) ∙ sym none
      go (inl p) = at_step p.0 p.1
        where
          at_step : (n : ℕ) → ancestor shape (suc i) n ≡ suc j
              → sum qo shape.bodies (λ n. if ancestor shape (suc i) (suc n) == suc j then blocks (suc i) (suc j) else 0ℚ) ≡ blocks (suc i) (suc j)
          at_step zero e = absurd (let same : suc i ≡ suc j = sym (ancestor-here shape (suc i)) ∙ e in omega (arith, same))
          at_step (suc n) e =
              let fall : ancestor shape (suc i) (suc n) + suc n ≤ suc i = path_falls shape parents (suc i) (suc n) l (omega (arith, e)) in
              sum_one shape.bodies n (λ k. if ancestor shape (suc i) (suc k) == suc j then value else 0ℚ) (omega (arith, fall))
              (λ k q h. if_zero (ancestor shape (suc i) (suc k) == suc j) _ (other k h (ancestor shape (suc i) (suc k) == suc j) refl))
              ∙ if_is (ancestor shape (suc i) (suc n) == suc j) _ (let is : (ancestor shape (suc i) (suc n) == suc j) ≡ true = grind arith in is)
            where
              other : (k : ℕ) → (k == n) ≡ false → (b : Bool) → (ancestor shape (suc i) (suc k) == suc j) ≡ b → (ancestor shape (suc i) (suc k) == suc j) ≡ false
              other k h false f = f
              other k h true f =
                  let at : ancestor shape (suc i) (suc k) ≡ suc j = grind arith in
                  let once : suc k ≡ suc n = met_once shape parents (suc i) (suc j) (suc n) (suc k) l (omega arith) e at in
                  absurd (let differ : ¬ (k ≡ n) = grind arith in differ (omega (arith, once)))

  along_path : (i : ℕ) → suc i ≤ shape.bodies → sum qo shape.bodies (step (suc i)) ≡ sum qo i (λ j. blocks (suc i) (suc j))
  along_path i l =
      sum_ext qo shape.bodies _ _ (λ n q. lands i n (ancestor shape (suc i) (suc n)) l refl)
      ∙ sum_swap rats shape.bodies i (λ n j. if ancestor shape (suc i) (suc n) == suc j then blocks (suc i) (suc j) else 0ℚ)
      ∙ sum_ext qo i _ _ (λ j r. met_by i j l r)

  -- ---- the sums
  all_blocks : cls (gathered shape m pair c d) ≡ sum qo shape.bodies (λ i. sum qo shape.bodies (λ j. block (suc i) (suc j)))
  all_blocks =
      cls-over_joints shape (λ i k. over_joints shape (λ j l. shared shape m pair c d i k j l))
      ∙ sum_ext qo shape.bodies _ _ (λ i q.
      sum_ext qo (count shape (suc i)) _ _ (λ k r. cls-over_joints shape (λ j l. shared shape m pair c d (suc i) k j l))
      ∙ sum_swap rats (count shape (suc i)) shape.bodies (λ k j. sum qo (count shape (suc j)) (one_way (suc i) k (suc j))))

  by_bodies : cls (gathered shape m pair c d) ≡ sum qo shape.bodies (λ i. block (suc i) (suc i) +ℚ sum qo shape.bodies (step (suc i)))
  by_bodies =
      all_blocks
      ∙ triangle shape.bodies (λ i j. block (suc i) (suc j))
      ∙ sum_ext qo shape.bodies _ _ (λ i q. ap (λ (t : ℚ). block (suc i) (suc i) +ℚ t)
      (sum_ext qo i _ _ (λ j r. two_blocks (suc i) (suc j) (record { from = omega arith; to = omega arith }) (record { from = omega arith; to = omega arith }))
      ∙ sym (along_path i (omega arith))))

  above_is : (i k : ℕ) → cls (over_above shape i k (two_ways i k))
      ≡ sum qo k (both i k i) +ℚ sum qo shape.bodies (λ n. if ancestor shape i (suc n) == 0 then 0ℚ else sum qo (count shape (ancestor shape i (suc n))) (both i k (ancestor shape i (suc n))))
  unfolding over_above
  above_is i k =
      let term = λ (n : ℕ). if ancestor shape i (suc n) == 0 then fracs.nul else sum_of fracs (count shape (ancestor shape i (suc n))) (two_ways i k (ancestor shape i (suc n))) in
      cls_of_add (sum_of fracs k (two_ways i k i)) (sum_of fracs shape.bodies term)
      ∙ ap₂ ◌+ℚ◌ (cls-sum k (two_ways i k i))
      (cls-sum shape.bodies term ∙ sum_ext qo shape.bodies _ _ (λ n q.
      cls_if (ancestor shape i (suc n) == 0) (sum_of fracs (count shape (ancestor shape i (suc n))) (two_ways i k (ancestor shape i (suc n))))
      ∙ ap (λ (t : ℚ). if ancestor shape i (suc n) == 0 then 0ℚ else t) (cls-sum (count shape (ancestor shape i (suc n))) (two_ways i k (ancestor shape i (suc n))))))

  joint_once : (i : ℕ) → HasBody shape i
      → sum qo (count shape i) (λ k. cls (add (shared shape m pair c d i k i k) (over_above shape i k (two_ways i k)))) ≡ block i i +ℚ sum qo shape.bodies (step i)
  joint_once i there =
      let up = λ (k n : ℕ). if ancestor shape i (suc n) == 0 then 0ℚ else sum qo (count shape (ancestor shape i (suc n))) (both i k (ancestor shape i (suc n))) in
      sum_ext qo (count shape i) _ _ (λ k r.
      cls_of_add (shared shape m pair c d i k i k) (over_above shape i k (two_ways i k))
      ∙ ap (λ (t : ℚ). one_way i k i k +ℚ t) (above_is i k)
      ∙ sym (add_assoc (one_way i k i k) (sum qo k (both i k i)) (sum qo shape.bodies (up k))))
      ∙ sum-add rats (count shape i) (λ k. one_way i k i k +ℚ sum qo k (both i k i)) (λ k. sum qo shape.bodies (up k))
      ∙ ap₂ ◌+ℚ◌ (sym (own_block i there))
      (sum_swap rats (count shape i) shape.bodies up
      ∙ sum_ext qo shape.bodies _ _ (λ n q. sum_if (ancestor shape i (suc n) == 0) (count shape i) (λ k. sum qo (count shape (ancestor shape i (suc n))) (both i k (ancestor shape i (suc n))))))

  pub once : cls (gathered_once shape m pair c d) ≡ cls (gathered shape m pair c d)
  once =
      cls-over_joints shape (λ i k. add (shared shape m pair c d i k i k) (over_above shape i k (two_ways i k)))
      ∙ sum_ext qo shape.bodies _ _ (λ i q. joint_once (suc i) (record { from = omega arith; to = omega arith }))
      ∙ sym by_bodies

pub each_pair_once : EachPairOnce
each_pair_once shape m inertia pair parents pairs c d = exact (gathered_once shape m pair c d) (gathered shape m pair c d) (once shape m inertia pair parents pairs c d)
