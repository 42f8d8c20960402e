-- Rows have factors, and numbers are found by them.
use Rattle.std.proofs.Common.{◌≡◌, ℕ, zero, suc, ◌+◌, ◌-◌, ◌<◌, ◌≤◌, refl, sym, ◌∙◌, ap, ap₂, subst, arith}
use native.Mathlib.Decide.{ℕ_discrete}
use Rattle.rb_frac.specs.Frac as F
use Rattle.rb_frac.specs.Frac.{Frac, Same, fracs}
use Rattle.rb_frac.proofs.Sums.{sum}
use Rattle.rb_frac.proofs.Reduce.{same_refl, same_trans}
use Rattle.rb_frac.proofs.Rational.{ℚ, ◌+ℚ◌, ◌*ℚ◌, 0ℚ, 1ℚ, inv, qo, cls, exact, sound, cls_of_quot, one_not_zero}
use Rattle.rb_frac.proofs.Hom.{cls_of_add}
use Rattle.rb_elimination.specs.Paths.{IsColumn, IsRegular}
use Rattle.rb_elimination.specs.Factors.{fraction_steps}
use Rattle.rb_elimination.specs.Solving.{IsReduced, IsSubstituted, IsFound}
use Rattle.rb_elimination.proofs.Numbers.{row, rows, reduced_of, divided_of}
use Rattle.rb_elimination.proofs.Triangle.{IsTriangle, reduced_gives, columns_tell}
use Rattle.rb_elimination.proofs.Lower.{triangle_of, lower_at, lower_is}
use Rattle.rb_elimination.proofs.Exists.{found_exists}
use Rattle.rb_bordered.specs.Steps.{fraction_row_steps, IsRow}
use Rattle.rb_bordered.specs.Coupling.{AreRowsReduced, AreCoupled}
use Rattle.rb_bordered.specs.Forces.{AreForces, HaveRowFactors, AreForcesFound, IsFoundWithForces}
use Rattle.rb_bordered.specs.Laws.{IsBorderedFound, BorderedExists}
use Rattle.rb_bordered.proofs.Numbers.{number, cls_of_products}
use Rattle.rb_bordered.proofs.Rows.{col, added_gives}

same_of : (x y : Frac) → x ≡ y → Same x y
same_of x y e = subst (λ t. Same x t) e (same_refl x)

pick : {P : Type 0} → Dec P → Frac → Frac → Frac
pick (yes p) x y = x
pick (no m) x y = y

picked : {P : Type 0} (d : Dec P) (x y : Frac) → P → pick d x y ≡ x
unfolding pick
picked (yes p) x y q = refl
picked (no m) x y q = absurd (m q)

not_picked : {P : Type 0} (d : Dec P) (x y : Frac) → ¬ P → pick d x y ≡ y
unfolding pick
not_picked (yes p) x y o = absurd (o p)
not_picked (no m) x y o = refl

-- ---- the elimination of a coupling
module _ (G : ℕ → ℕ → Frac) where
  table : ℕ → ℕ → ℕ → Frac
  table zero q t = G q t
  table (suc r) q t = F.sub (table r q t) (F.mul (F.quot (table r q (suc r)) (table r (suc r) (suc r))) (table r t (suc r)))

  table_first : (q t : ℕ) → table 0 q t ≡ G q t
  unfolding table
  table_first q t = refl

  table_next : (r q t : ℕ) → table (suc r) q t ≡ F.sub (table r q t) (F.mul (F.quot (table r q (suc r)) (table r (suc r) (suc r))) (table r t (suc r)))
  unfolding table
  table_next r q t = refl

  abbrev quotients : ℕ → ℕ → Frac
  quotients q zero = fracs.nul
  quotients q (suc r) = F.quot (table r q (suc r)) (table r (suc r) (suc r))

  abbrev pivots : ℕ → Frac
  pivots zero = fracs.nul
  pivots (suc r) = table r (suc r) (suc r)

-- ---- the forces of a right side
module _ (l : ℕ → ℕ → Frac) (e : ℕ → Frac) where
  reduced_left : ℕ → ℕ → Frac
  reduced_left zero q = e q
  reduced_left (suc r) q = F.sub (reduced_left r q) (F.mul (l q (suc r)) (reduced_left r (suc r)))

  left_first : (q : ℕ) → reduced_left 0 q ≡ e q
  unfolding reduced_left
  left_first q = refl

  left_next : (r q : ℕ) → reduced_left (suc r) q ≡ F.sub (reduced_left r q) (F.mul (l q (suc r)) (reduced_left r (suc r)))
  unfolding reduced_left
  left_next r q = refl

  abbrev reduced : ℕ → Frac
  reduced zero = fracs.nul
  reduced (suc r) = reduced_left r (suc r)

module _ (R : ℕ) (l : ℕ → ℕ → Frac) (z : ℕ → Frac) where
  -- what is left of row r when i of the later rows, with the forces v, have had their turn
  run : ℕ → (ℕ → Frac) → ℕ → Frac
  run r v zero = z r
  run r v (suc i) = F.sub (run r v i) (F.mul (l (suc (r + i)) r) (v (suc (r + i))))

  run_first : (r : ℕ) (v : ℕ → Frac) → run r v 0 ≡ z r
  unfolding run
  run_first r v = refl

  run_next : (r : ℕ) (v : ℕ → Frac) (i : ℕ) → run r v (suc i) ≡ F.sub (run r v i) (F.mul (l (suc (r + i)) r) (v (suc (r + i))))
  unfolding run
  run_next r v i = refl

  run_same : (r : ℕ) (u v : ℕ → Frac) (i : ℕ) → ((j : ℕ) → j < i → u (suc (r + j)) ≡ v (suc (r + j))) → run r u i ≡ run r v i
  run_same r u v zero h = run_first r u ∙ sym (run_first r v)
  run_same r u v (suc i) h =
      run_next r u i
      ∙ ap₂ (λ a b. F.sub a (F.mul (l (suc (r + i)) r) b)) (run_same r u v i (λ j b. h j (omega arith))) (h i (omega arith))
      ∙ sym (run_next r v i)

  -- the force of a row, where at most k rows are later
  force_at : ℕ → ℕ → Frac
  force_at zero r = z r
  force_at (suc k) r = run r (force_at k) (R - r)

  force_none : (r : ℕ) → force_at 0 r ≡ z r
  unfolding force_at
  force_none r = refl

  force_next : (k r : ℕ) → force_at (suc k) r ≡ run r (force_at k) (R - r)
  unfolding force_at
  force_next k r = refl

  last_force : (k r : ℕ) → R ≤ r → force_at k r ≡ z r
  last_force zero r b = force_none r
  last_force (suc k) r b =
      let e : R - r ≡ 0 = omega arith in
      force_next k r ∙ ap (λ i. run r (force_at k) i) e ∙ run_first r (force_at k)

  force_same : (k j r : ℕ) → R ≤ r + k → R ≤ r + j → force_at k r ≡ force_at j r
  force_same zero j r a b = force_none r ∙ sym (last_force j r (omega arith))
  force_same (suc k) zero r a b = last_force (suc k) r (omega arith) ∙ sym (force_none r)
  force_same (suc k) (suc j) r a b =
      force_next k r
      ∙ run_same r (force_at k) (force_at j) (R - r) (λ i p. force_same k j (suc (r + i)) (omega arith) (omega arith))
      ∙ sym (force_next j r)

  abbrev force : ℕ → Frac
  force = force_at R

  force_is : (r : ℕ) → IsRow R r → force r ≡ run r force (R - r)
  force_is r there =
      let f : 1 ≤ r = there.from in
      force_same R (suc R) r (omega arith) (omega arith) ∙ force_next R r

  abbrev row_part : ℕ → ℕ → Frac
  row_part r q = run r force (q - suc r)

  part_first : (r : ℕ) → row_part r (suc r) ≡ z r
  part_first r =
      let e : suc r - suc r ≡ 0 = omega arith in
      ap (λ i. run r force i) e ∙ run_first r force

  part_last : (r : ℕ) → IsRow R r → force r ≡ row_part r (suc R)
  part_last r there =
      let e : R - r ≡ suc R - suc r = omega arith in
      force_is r there ∙ ap (λ i. run r force i) e

  part_next : (r q : ℕ) → r < q → row_part r (suc q) ≡ F.sub (row_part r q) (F.mul (l q r) (force q))
  part_next r q b =
      let e : suc q - suc r ≡ suc (q - suc r) = omega arith in
      let s : suc (r + (q - suc r)) ≡ q = omega arith in
      ap (λ i. run r force i) e ∙ run_next r force (q - suc r) ∙ ap (λ j. F.sub (row_part r q) (F.mul (l j r) (force j))) s

  are_forces : AreForces fraction_row_steps R l z row_part force
  are_forces = record {
    first = λ r there. same_of (row_part r (suc r)) (z r) (part_first r);
    result = λ r there. same_of (force r) (row_part r (suc R)) (part_last r there);
    updates = λ r q there b k. same_of (row_part r (suc q)) (F.sub (row_part r q) (F.mul (l q r) (force q))) (part_next r q b);
  }

-- ---- all of it
module _ (n : ℕ) (up : ℕ → ℕ) (R : ℕ) (L : ℕ → ℕ → Frac) (D : ℕ → Frac) (J : ℕ → ℕ → Frac) (mu k g : ℕ → Frac) (regular : IsRegular n up) where
  solution : (right : ℕ → Frac) → (x : ℕ → Frac) × IsFound fraction_steps n up L D right x
  solution right = found_exists n up L D right regular

  abbrev of_row : (r : ℕ) → IsFound fraction_steps n up L D (J r) (solution (J r)).0
  of_row r = (solution (J r)).1

  abbrev Y : ℕ → ℕ → Frac
  Y r = (of_row r).w

  abbrev Z : ℕ → ℕ → Frac
  Z r = (of_row r).z

  abbrev products : ℕ → ℕ → Frac
  products q r = sum fracs n (λ c. F.mul (Y r (suc c)) (Z q (suc c)))

  G : ℕ → ℕ → Frac
  G q r = pick (ℕ_discrete q r) (F.add (products r r) (mu r)) (products q r)

  G_own : (r : ℕ) → G r r ≡ F.add (products r r) (mu r)
  unfolding G
  G_own r = picked (ℕ_discrete r r) (F.add (products r r) (mu r)) (products r r) refl

  G_pair : (q r : ℕ) → ¬ (q ≡ r) → G q r ≡ products q r
  unfolding G
  G_pair q r o = not_picked (ℕ_discrete q r) (F.add (products r r) (mu r)) (products q r) o

  abbrev l : ℕ → ℕ → Frac
  l = quotients G

  abbrev C : ℕ → Frac
  C = pivots G

  factors : HaveRowFactors fraction_row_steps n up R L D J mu Y l C
  factors = record {
    left = λ r. (of_row r).left;
    Z = Z;
    alone = λ r. products r r;
    G = G;
    table = table G;
    reduced = record { reduced = λ r there. (of_row r).reduced; divided = λ r there. (of_row r).divided };
    coupled = record {
      pairs = λ q r a b p. same_of (G q r) (products q r) (G_pair q r (λ e. absurd (omega (arith, e))));
      own = λ r there. same_refl (products r r);
      compliant = λ r there. same_of (G r r) (F.add (products r r) (mu r)) (G_own r);
    };
    eliminated = record {
      first = λ q t a b. same_of (table G 0 q t) (G q t) (table_first G q t);
      pivots = λ r b. same_refl (table G r (suc r) (suc r));
      quotients = λ r q p b. same_refl (F.quot (table G r q (suc r)) (table G r (suc r) (suc r)));
      updates = λ r q t p a b. same_of (table G (suc r) q t) (F.sub (table G r q t) (F.mul (F.quot (table G r q (suc r)) (table G r (suc r) (suc r))) (table G r t (suc r)))) (table_next G r q t);
    };
  }

  abbrev at_rest : IsFound fraction_steps n up L D k (solution k).0
  at_rest = (solution k).1

  abbrev w : ℕ → Frac
  w = at_rest.w

  abbrev without : ℕ → Frac
  without r = sum fracs n (λ c. F.mul (Y r (suc c)) (at_rest.z (suc c)))

  abbrev e : ℕ → Frac
  e r = F.neg (F.add (g r) (without r))

  abbrev divided : ℕ → Frac
  divided r = F.quot (reduced l e r) (C r)

  abbrev lam : ℕ → Frac
  lam = force R l divided

  forces : AreForcesFound fraction_row_steps n up R L D Y l C k g w lam
  forces = record {
    left = at_rest.left;
    z = at_rest.z;
    without = without;
    total = λ r. F.add (g r) (without r);
    e = e;
    row_left = reduced_left l e;
    row_reduced = reduced l e;
    row_divided = divided;
    row_part = row_part R l divided;
    reduced = at_rest.reduced;
    divided = at_rest.divided;
    sides = record {
      sums = λ r there. same_refl (without r);
      totals = λ r there. same_refl (F.add (g r) (without r));
      negatives = λ r there. same_refl (e r);
    };
    right_reduced = record {
      first = λ r there. same_of (reduced_left l e 0 r) (e r) (left_first l e r);
      result = λ r b. same_refl (reduced_left l e r (suc r));
      updates = λ r q p b. same_of (reduced_left l e (suc r) q) (F.sub (reduced_left l e r q) (F.mul (l q (suc r)) (reduced_left l e r (suc r)))) (left_next l e r q);
    };
    right_divided = λ r there. same_refl (divided r);
    forces = are_forces R l divided;
  }

  -- ---- with the forces
  abbrev more : ℕ → Frac
  more c = sum fracs R (λ r. F.mul (Y (suc r) c) (lam (suc r)))

  abbrev added : ℕ → Frac
  added c = F.add (w c) (more c)

  abbrev pushed : ℕ → Frac
  pushed c = F.add (k c) (sum fracs R (λ r. F.mul (J (suc r) c) (lam (suc r))))

  abbrev with_forces : IsFound fraction_steps n up L D pushed (solution pushed).0
  with_forces = (solution pushed).1

  abbrev lower : ℕ → ℕ → ℚ
  lower = rows (lower_at n up regular L)

  abbrev triangle : IsTriangle n up (rows L) lower
  triangle = triangle_of n up L (lower_at n up regular L) (lower_is n up regular L)

  gives : (right : ℕ → Frac) (f : IsFound fraction_steps n up L D right (solution right).0) (c : ℕ) → IsColumn n c → col n up regular (rows L) lower triangle (row f.w) c ≡ row right c
  gives right f = reduced_gives n up regular (rows L) lower triangle (row right) (rows f.left) (row f.w) (reduced_of n up L right f.left f.w f.reduced)

  abbrev sums : ℕ → ℚ
  sums c = cls (w c) +ℚ sum qo R (λ r. cls (Y (suc r) c) *ℚ cls (lam (suc r)))

  sums_is : (c : ℕ) → cls (added c) ≡ sums c
  sums_is c = cls_of_add (w c) (more c) ∙ ap (λ t. cls (w c) +ℚ t) (cls_of_products R (λ r. Y (suc r) c) (λ r. lam (suc r)))

  pushed_is : (c : ℕ) → cls (pushed c) ≡ cls (k c) +ℚ sum qo R (λ r. cls (J (suc r) c) *ℚ cls (lam (suc r)))
  pushed_is c =
      cls_of_add (k c) (sum fracs R (λ r. F.mul (J (suc r) c) (lam (suc r)))) ∙ ap (λ t. cls (k c) +ℚ t) (cls_of_products R (λ r. J (suc r) c) (λ r. lam (suc r)))

  sums_give : (c : ℕ) → IsColumn n c → col n up regular (rows L) lower triangle sums c ≡ cls (k c) +ℚ sum qo R (λ r. cls (J (suc r) c) *ℚ cls (lam (suc r)))
  sums_give =
      added_gives n up regular (rows L) lower triangle (λ c. 1ℚ) (λ c b. one_not_zero) R (rows J) (rows Y)
      (λ r c b there. gives (J (suc r)) (of_row (suc r)) c there) (row k) (row w) (gives k at_rest) (row lam)

  same_added : (c : ℕ) → c < n → cls (with_forces.w (suc c)) ≡ cls (added (suc c))
  same_added c b =
      columns_tell n up regular (rows L) lower triangle (row with_forces.w) sums n (omega arith)
      (λ d there. gives pushed with_forces d there ∙ pushed_is d ∙ sym (sums_give d there)) c b
      ∙ sym (sums_is (suc c))

  same_divided : (c : ℕ) → IsColumn n c → Same (with_forces.z c) (F.quot (added c) (D c))
  same_divided zero there = absurd (omega (arith, there.from))
  same_divided (suc c) there =
      exact (with_forces.z (suc c)) (F.quot (added (suc c)) (D (suc c)))
      (divided_of n up D with_forces.w with_forces.z with_forces.divided (suc c) there
      ∙ ap (λ t. t *ℚ inv (cls (D (suc c)))) (same_added c (omega (arith, there.to)))
      ∙ sym (cls_of_quot (added (suc c)) (D (suc c))))

  found : IsFoundWithForces fraction_row_steps n up R L D Y w lam (solution pushed).0
  found = record {
    more = more;
    added = added;
    z = λ c. F.quot (added c) (D c);
    part = with_forces.part;
    adds = record { sums = λ c there. same_refl (more c); totals = λ c there. same_refl (added c) };
    divided = λ c there. same_refl (F.quot (added c) (D c));
    substituted = record {
      first = λ c there. same_trans (with_forces.part c (up c)) (with_forces.z c) (F.quot (added c) (D c)) (with_forces.substituted.first c there) (same_divided c there);
      result = with_forces.substituted.result;
      updates = with_forces.substituted.updates;
    };
  }

  pub is_found : IsBorderedFound n up R L D J mu k g
  is_found = record { Y = Y; l = l; C = C; w = w; lam = lam; x = (solution pushed).0; factors = factors; forces = forces; found = found }

pub bordered_exists : BorderedExists
bordered_exists n up R L D J mu k g regular = is_found n up R L D J mu k g regular
