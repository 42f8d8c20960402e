-- The entries of a Jacobian lie in what a row adds up by columns.
use Rattle.std.proofs.Common.{◌≡◌, ℕ, zero, suc, ◌+◌, ◌-◌, ◌<◌, ◌≤◌, ◌==◌, ◌||◌, Bool, true, false, if◌then◌else◌, List, [], ◌∷◌, length, Option, None, Some, Ok, inl, inr, refl, sym, ap, ◌∙◌, subst, arith}
use Rattle.std.specs.List.{list_any}
use Rattle.rb_sweep.specs.Sweep.{sweep, counting_up, upward, Among}
use Rattle.rb_sweep.proofs.SweepLaws.{among_range_up}
use Rattle.rb_frac.specs.Ops.{sum as sum_of, minus}
use Rattle.rb_frac.specs.Frac.{Frac, Same, fracs, mul}
use Rattle.rb_frac.specs.Pairs.{dot}
use Rattle.rb_frac.proofs.Ring.{expr, var, mul_nul}
use Rattle.rb_frac.proofs.Rational.{ℚ, ◌*ℚ◌, 0ℚ, qo, rats, cls, exact, cls-zero, mul_comm_ℚ}
use Rattle.rb_frac.proofs.Hom.{frac_ring, cls_of_mul}
use Rattle.rb_frac.proofs.Sums.{sum}
use Rattle.rb_frac.proofs.Transfer.{cls-sum}
use Rattle.rb_frac.proofs.Variables.{at}
use Rattle.rb_num.specs.Interval.{Interval, zero_interval}
use Rattle.rb_num.specs.Dot.{iv_dot}
use Rattle.rb_num.specs.Fraction.{LiesIn}
use Rattle.rb_num.proofs.Same.{lies_in_same}
use Rattle.rb_num.proofs.Relates.{Met, dot_met, add_met, sub_met}
use Rattle.rb_num.proofs.Bridges.{to_intervals, ok_met}
use Rattle.rb_flat.specs.Joint as Kinds
use Rattle.rb_flat.specs.Shape as Flat
use Rattle.rb_flat.specs.Mechanism.{Mechanism}
use Rattle.rb_flat.specs.Dynamics.{follows, followed}
use Rattle.rb_flat.proofs.Powers.{sum_none, sum_one}
use Rattle.rb_flat.proofs.VirtualWork.{one_column}
use Rattle.rb_composite.specs.Composite.{HasJointColumn, over_joints, share}
use Rattle.rb_composite.proofs.Paths.{equal_is}
use Rattle.rb_composite.proofs.Owners.{gear}
use Rattle.rb_composite.proofs.Adding.{Adds, then_lies, met_same, adds_same, adds_if, adds_up}
use Rattle.rb_composite.proofs.Summands.{numbers}
use Rattle.rb_tree.specs.Columns.{first_full, first_column, body_of_column}
use Rattle.rb_tree.specs.Numbers.{mimic_at}
use Rattle.rb_tree.specs.Robot.{Tree, HasBody, HasColumn, AreBodies}
use Rattle.rb_tree.specs.Shape.{master_of, master_at, shape_of}
use Rattle.rb_tree.proofs.Shapes.{mimics_fit}
use Rattle.rb_tree.proofs.ColumnsFit.{columns_fit}
use Rattle.rb_tree.proofs.PlaceEncloses.{master_same}
use Rattle.rb_constraint.specs.declared.ways.Ways.{Ways}
use Rattle.rb_constraint.specs.Rows.{is_led, multiplier_at, weighed, entry_of, add_entry, add_joint, column_by}

-- ---- small facts
upward_is : (n : ℕ) → upward 1 (n + 1) ≡ counting_up 1 n
unfolding upward
upward_is n = let e : n + 1 - 1 ≡ n = omega arith in ap (counting_up 1) e

product_alone : (x y : Frac) → Same (dot fracs ((x, y) ∷ [])) (mul x y)
unfolding dot
product_alone x y =
    frac_ring (at (x ∷ y ∷ [])) (expr.add (expr.mul (var 0) (var 1)) expr.nul) (expr.mul (var 0) (var 1)) refl

one_times : (x : Frac) → Same x (mul fracs.one x)
one_times x = frac_ring (at (x ∷ [])) (var 0) (expr.mul expr.one (var 0)) refl

from_nothing : (x : Frac) → Same (fracs.add fracs.nul x) x
from_nothing x = frac_ring (at (x ∷ [])) (expr.add expr.nul (var 0)) (var 0) refl

zero_left : (x y : ℚ) → x ≡ 0ℚ → x *ℚ y ≡ 0ℚ
zero_left x y e = ap (λ (t : ℚ). t *ℚ y) e ∙ mul_comm_ℚ 0ℚ y ∙ mul_nul rats y

is_equal : (a b : ℕ) → a ≡ b → (a == b) ≡ true
is_equal a b e = grind arith

either_true : (a b : Bool) → b ≡ true → (a || b) ≡ true
either_true true b e = refl
either_true false b e = e

any_of : (p : ℕ → Bool) (xs : List ℕ) (i : ℕ) → Among i xs → p i ≡ true → list_any p xs ≡ true
any_of p [] i h e = absurd h
any_of p (x ∷ xs) i (inl same) e = let is : p x ≡ true = ap p (sym same) ∙ e in rw is refl
any_of p (x ∷ xs) i (inr more) e = either_true (p x) (list_any p xs) (any_of p xs i more e)

follows_is : (o : Option ℕ) (i : ℕ) → o ≡ Some i → follows o i ≡ true
follows_is None i e = absurd cc
follows_is (Some m) i e = let same : m ≡ i = cc in is_equal m i same

followed_by : (o : Option ℕ) (i : ℕ) → follows o i ≡ true → o ≡ Some i
followed_by None i e = absurd cc
followed_by (Some m) i e = ap Some (equal_is m i e)

-- ---- one column
module _ (tree : Tree) (kept : AreBodies tree.bodies) (m : Mechanism Frac)
    (gears : (j : ℕ) → HasBody tree j → LiesIn (gear (shape_of tree) m j) (multiplier_at tree.bodies j)) (first second : ℕ → ℕ → Frac) (ways : Ways)
    (firsts : (i l : ℕ) → HasJointColumn (shape_of tree) i l → LiesIn (first i l) (entry_of ways.first (first_full tree.bodies i + l)))
    (seconds : (i l : ℕ) → HasJointColumn (shape_of tree) i l → LiesIn (second i l) (entry_of ways.second (first_full tree.bodies i + l))) (c : ℕ) (has : HasColumn tree c) where
  abbrev count : ℕ → ℕ
  count j = Kinds.column_count ((shape_of tree).kind j)

  fit : Flat.ColumnsFit (shape_of tree)
  fit = columns_fit tree kept

  mimics : Flat.MimicsFit (shape_of tree)
  mimics = mimics_fit tree kept

  -- the body whose joint has it, and its number there
  abbrev i : ℕ
  i = body_of_column tree.bodies c

  abbrev k : ℕ
  k = c - first_column tree.bodies i

  owns : Flat.OwnsColumn (shape_of tree) i c
  owns = fit.owner c (record { from = has.from; to = has.to })

  -- whether the joint of body j is that one or follows it
  abbrev moves : ℕ → Bool
  moves j = j == i || follows (master_of (mimic_at tree.bodies j)) i

  -- the entries of the row at joint columns
  abbrev left : ℕ → ℕ → Frac
  left j l = minus fracs (first j l) (second j l)

  abbrev shared : ℕ → ℕ → Frac
  shared j l = mul (share (shape_of tree) m c j l) (left j l)

  -- ---- which joints
  record Moved (j : ℕ) : Type 0 where
    pub starts : first_column tree.bodies j ≡ first_column tree.bodies i
    pub column : HasJointColumn (shape_of tree) j k

  its_own : HasJointColumn (shape_of tree) i k
  its_own = let from = owns.from in let below = owns.below in record { there = owns.there; below = omega arith }

  follower_moves : (j : ℕ) → HasBody tree j → master_at tree.bodies j ≡ Some i → Moved j
  follower_moves j there e =
      let body : Flat.HasBody (shape_of tree) j = record { from = there.from; to = there.to } in
      let may = mimics j i body e in
      let own : count j ≡ 1 = one_column ((shape_of tree).kind j) may.entry in
      let masters : count i ≡ 1 = one_column ((shape_of tree).kind i) may.master_entry in
      let below = its_own.below in
      record { starts = fit.follower j i body e; column = record { there = body; below = omega (arith, own, masters, below) } }

  moved : (j : ℕ) → HasBody tree j → moves j ≡ true → Moved j
  moved j there e = go (j == i) refl
    where
      go : (b : Bool) → (j == i) ≡ b → Moved j
      go true z =
          let same : j ≡ i = equal_is j i z in
          record { starts = ap (first_column tree.bodies) same; column = subst (λ (n : ℕ). HasJointColumn (shape_of tree) n k) (sym same) its_own }
      go false z =
          let follows_it : follows (master_of (mimic_at tree.bodies j)) i ≡ true = sym (ap (λ (b : Bool). b || follows (master_of (mimic_at tree.bodies j)) i) z) ∙ e in
          follower_moves j there (master_same tree.bodies j ∙ followed_by (master_of (mimic_at tree.bodies j)) i follows_it)

  -- a joint column that is c, or follows it, is of one of them
  moves_at : (j l : ℕ) → HasJointColumn (shape_of tree) j l → first_column tree.bodies j + l ≡ c → moves j ≡ true
  moves_at j l there e = go (master_at tree.bodies j) refl
    where
      go : (o : Option ℕ) → master_at tree.bodies j ≡ o → moves j ≡ true
      go None z =
          let below = there.below in
          let same : i ≡ j = fit.alone j c (record { there = there.there; leads = z; from = omega (arith, e); below = omega (arith, e, below) }) in
          ap (λ (b : Bool). b || follows (master_of (mimic_at tree.bodies j)) i) (is_equal j i (sym same))
      go (Some master) z =
          let may = mimics j master there.there z in
          let own : count j ≡ 1 = one_column ((shape_of tree).kind j) may.entry in
          let masters : count master ≡ 1 = one_column ((shape_of tree).kind master) may.master_entry in
          let starts : first_column tree.bodies j ≡ first_column tree.bodies master = fit.follower j master there.there z in
          let below = there.below in
          let same : i ≡ master =
          fit.alone master c (record { there = may.there; leads = may.leads; from = omega (arith, e, starts); below = omega (arith, e, starts, own, masters, below) }) in
          either_true (j == i) (follows (master_of (mimic_at tree.bodies j)) i)
          (follows_is (master_of (mimic_at tree.bodies j)) i (sym (master_same tree.bodies j) ∙ z ∙ ap Some (sym same)))

  -- ---- what the columns of one joint add
  share_other : (j l : ℕ) → (first_column tree.bodies j + l == c) ≡ false → cls (shared j l) ≡ 0ℚ
  unfolding share
  share_other j l e =
      cls_of_mul (share (shape_of tree) m c j l) (left j l)
      ∙ zero_left _ _ (ap (λ (b : Bool). cls (if b then gear (shape_of tree) m j else fracs.nul)) e ∙ cls-zero)

  share_own : (j l : ℕ) → (first_column tree.bodies j + l == c) ≡ true → shared j l ≡ mul (gear (shape_of tree) m j) (left j l)
  unfolding share
  share_own j l e = ap (λ (b : Bool). mul (if b then gear (shape_of tree) m j else fracs.nul) (left j l)) e

  of_joint : (j : ℕ) → HasBody tree j → Same (if moves j then mul (gear (shape_of tree) m j) (left j k) else fracs.nul) (sum_of fracs (count j) (shared j))
  of_joint j there = exact _ _ (go (moves j) refl ∙ sym (cls-sum (count j) (shared j)))
    where
      go : (b : Bool) → moves j ≡ b → cls (if b then mul (gear (shape_of tree) m j) (left j k) else fracs.nul) ≡ sum qo (count j) (λ l. cls (shared j l))
      go true e =
          let h = moved j there e in
          let starts = h.starts in
          let from = owns.from in
          let is : (first_column tree.bodies j + k == c) ≡ true = is_equal (first_column tree.bodies j + k) c (omega (arith, starts, from)) in
          sym (sum_one (count j) k (λ l. cls (shared j l)) h.column.below (λ l below differ. share_other j l (other l differ (first_column tree.bodies j + l == c) refl starts))
          ∙ ap cls (share_own j k is))
        where
          other : (l : ℕ) → (l == k) ≡ false → (b : Bool) → (first_column tree.bodies j + l == c) ≡ b → first_column tree.bodies j ≡ first_column tree.bodies i → (first_column tree.bodies j + l == c) ≡ false
          other l differ true z starts =
              let at : first_column tree.bodies j + l ≡ c = equal_is (first_column tree.bodies j + l) c z in
              let same : l ≡ k = omega (arith, at, starts) in
              absurd (let clash : (l == k) ≡ true = is_equal l k same in cc)
          other l differ false z starts = z
      go false e =
          cls-zero ∙ sym (sum_none (count j) (λ l. cls (shared j l)) (λ l below. share_other j l (other l below (first_column tree.bodies j + l == c) refl)))
        where
          other : (l : ℕ) → l < count j → (b : Bool) → (first_column tree.bodies j + l == c) ≡ b → (first_column tree.bodies j + l == c) ≡ false
          other l below true z =
              let body : Flat.HasBody (shape_of tree) j = record { from = there.from; to = there.to } in
              absurd (let clash : moves j ≡ true = moves_at j l (record { there = body; below = below }) (equal_is (first_column tree.bodies j + l) c z) in cc)
          other l below false z = z

  -- ---- what the row adds for it
  -- a joint that moves the column, where no joint follows that one
  unled : (j : ℕ) → HasBody tree j → moves j ≡ true → is_led tree.bodies i ≡ false → gear (shape_of tree) m j ≡ fracs.one
  unled j there e none = go (j == i) refl
    where
      go : (b : Bool) → (j == i) ≡ b → gear (shape_of tree) m j ≡ fracs.one
      go true z =
          let same : j ≡ i = equal_is j i z in
          let leads : master_at tree.bodies j ≡ None = ap (master_at tree.bodies) same ∙ owns.leads in
          ap (λ (o : Option ℕ). followed fracs o (m.multiplier j) fracs.one) leads
      go false z =
          let follows_it : follows (master_of (mimic_at tree.bodies j)) i ≡ true = sym (ap (λ (b : Bool). b || follows (master_of (mimic_at tree.bodies j)) i) z) ∙ e in
          let to = there.to in
          let led : is_led tree.bodies i ≡ true =
          any_of (λ n. follows (master_of (mimic_at tree.bodies n)) i) (upward 1 (length tree.bodies + 1)) j (among_range_up 1 (length tree.bodies + 1) j (there.from, omega arith)) follows_it in
          absurd (let clash : true ≡ false = sym led ∙ none in cc)

  weighed_lies : (j : ℕ) → HasBody tree j → moves j ≡ true → (x : Frac) (v : Interval) → LiesIn x v → Met to_intervals LiesIn (mul (gear (shape_of tree) m j) x) (weighed tree.bodies i j v)
  unfolding weighed
  weighed_lies j there e x v lies = go (is_led tree.bodies i) refl
    where
      go : (b : Bool) → is_led tree.bodies i ≡ b → Met to_intervals LiesIn (mul (gear (shape_of tree) m j) x) (if b then iv_dot ((multiplier_at tree.bodies j, v) ∷ []) else Ok v)
      go true z =
          met_same numbers (dot fracs ((gear (shape_of tree) m j, x) ∷ [])) (mul (gear (shape_of tree) m j) x) (iv_dot ((multiplier_at tree.bodies j, v) ∷ [])) (product_alone (gear (shape_of tree) m j) x)
          (dot_met to_intervals ((gear (shape_of tree) m j, x) ∷ []) ((multiplier_at tree.bodies j, v) ∷ []) (gears j there, lies, tt))
      go false z =
          record { met = subst (λ (g : Frac). LiesIn (mul g x) v) (sym (unled j there e z)) (lies_in_same x (mul fracs.one x) v (one_times x) lies) }

  adds_entry : (j : ℕ) → HasBody tree j → moves j ≡ true → Adds numbers (mul (gear (shape_of tree) m j) (left j k)) (add_entry tree.bodies ways i j (first_full tree.bodies j + k))
  unfolding add_entry
  adds_entry j there e =
      let column = (moved j there e).column in
      record {
        at = λ x v lies.
            then_lies (sub_met to_intervals (firsts j k column) (seconds j k column)) (λ d hd.
            then_lies (weighed_lies j there e (left j k) d hd) (λ y hy. add_met to_intervals lies hy));
      }

  adds_joint : (j : ℕ) → HasBody tree j → Adds numbers (sum_of fracs (count j) (shared j)) (add_joint tree.bodies ways i k j)
  unfolding add_joint
  adds_joint j there =
      adds_same numbers (if moves j then mul (gear (shape_of tree) m j) (left j k) else fracs.nul) (sum_of fracs (count j) (shared j)) (add_joint tree.bodies ways i k j) (of_joint j there)
      (adds_if numbers (moves j) (mul (gear (shape_of tree) m j) (left j k)) (add_entry tree.bodies ways i j (first_full tree.bodies j + k)) (λ e. adds_entry j there e))

  adds_joints : Adds numbers (over_joints (shape_of tree) shared) (λ v. sweep (add_joint tree.bodies ways i k) (upward 1 (length tree.bodies + 1)) v)
  adds_joints =
      subst (λ (js : List ℕ). Adds numbers (over_joints (shape_of tree) shared) (λ v. sweep (add_joint tree.bodies ways i k) js v)) (sym (upward_is (length tree.bodies)))
      (adds_up numbers (add_joint tree.bodies ways i k) (λ j. sum_of fracs (count (suc j)) (shared (suc j))) 1 (length tree.bodies) one)
    where
      one : (j : ℕ) → j < length tree.bodies → Adds numbers (sum_of fracs (count (suc j)) (shared (suc j))) (add_joint tree.bodies ways i k (1 + j))
      one j b =
          let same : suc j ≡ 1 + j = omega arith in
          subst (λ (n : ℕ). Adds numbers (sum_of fracs (count (suc j)) (shared (suc j))) (add_joint tree.bodies ways i k n)) same
          (adds_joint (suc j) (record { from = omega arith; to = omega arith }))

  opened : (n : ℕ) → 1 ≤ n → (v : Interval) → column_by tree.bodies ways n ≡ Ok v
      → sweep (add_joint tree.bodies ways (body_of_column tree.bodies n) (n - first_column tree.bodies (body_of_column tree.bodies n))) (upward 1 (length tree.bodies + 1)) zero_interval ≡ Ok v
  unfolding column_by
  opened zero low v e = absurd (omega arith)
  opened (suc n) low v e = e

  pub column_lies : (v : Interval) → column_by tree.bodies ways c ≡ Ok v → LiesIn (over_joints (shape_of tree) shared) v
  column_lies v e =
      lies_in_same (fracs.add fracs.nul (over_joints (shape_of tree) shared)) (over_joints (shape_of tree) shared) v (from_nothing (over_joints (shape_of tree) shared))
      (ok_met (opened c has.from v e) (adds_joints.at fracs.nul zero_interval to_intervals.zero))
