-- The names of a row come in the order of their ranks, and a rule reads no more than what comes before.
use Rattle.std.proofs.Common.{◌≡◌, ℕ, zero, suc, ◌+◌, ◌-◌, ◌*◌, ◌<◌, ◌≤◌, List, [], ◌∷◌, ◌++◌, length, flat_map, inl, inr, refl, ap, sym, ◌∙◌, subst, arith}
use Rattle.rb_work.specs.View.{View, Extent, U_at, D_at, u_at, x_at}
use Rattle.rb_work.specs.Place.{Place, q_of, X_of, s_of, v_of, c_of, IA_of, p_of, U_of, packed_of, u_of, Ia_of, pa_of, x_of, a_of, look}
use Rattle.rb_sweep.specs.Sweep.{Among, upward, downward}
use Rattle.rb_sweep.proofs.Climbing.{Climbs, climbs_append, climbs_widen, climbs_upward, climbs_downward, among_left, among_right, among_upward, among_downward}
use Rattle.rb_work.proofs.PlaceLaws.{IsCall}
use Rattle.rb_tree.specs.Columns.{parent_at, body_of_column}
use Rattle.rb_tree.specs.Robot.{Tree, HasBody, HasColumn, AreBodies}
use Rattle.rb_tree.specs.State.{Row}
use Rattle.rb_tree.specs.Places.{order as place_order}
use Rattle.rb_tree.proofs.PlacePass as places
use Rattle.rb_rnea.specs.Rates.{joint_columns}
use Rattle.rb_rnea.specs.Speeds.{order as speed_order}
use Rattle.rb_rnea.proofs.RowPass.{HasRoom, v_reads, c_reads, has_body}
use Rattle.rb_aba.specs.Articulated as Up
use Rattle.rb_aba.specs.Articulated.{HasJointColumn, column_of, rest_from, column_names}
use Rattle.rb_aba.specs.Accelerations as Down
use Rattle.rb_aba.specs.Forward.{AllLead, place_in, rule, order}
use Rattle.rb_aba.proofs.RowNames.{few, body_again, place_again, column_there, number_again, has_number, pass, up_rank, column_rank, rank, Own, call, inside, apart, IA_reads, p_reads, rest_reads, U_reads, D_reads, u_reads, Ia_reads, pa_reads, carried_reads, moved_reads, x_reads, a_reads}

module _ (tree : Tree) (kept : AreBodies tree.bodies) (lead : AllLead tree) where
  -- ---- ranks of columns
  abbrev n : ℕ → ℕ
  n i = joint_columns tree.bodies i

  pub at_column : (i l : ℕ) → HasJointColumn tree i l → column_rank tree (column_of tree.bodies i l) ≡ up_rank tree i + 3 * (5 - l)
  at_column i l col =
      ap (λ (j : ℕ). up_rank tree j + 3 * (5 - place_in tree.bodies (column_of tree.bodies i l))) (body_again tree kept lead i l col)
      ∙ ap (λ (m : ℕ). up_rank tree i + 3 * (5 - m)) (place_again tree kept lead i l col)

  pub low_column : (i l : ℕ) → HasJointColumn tree i l → l ≤ 5
  low_column i l col = omega (arith, few tree kept lead i, col.below)

  pub at_rate : (i l : ℕ) → HasJointColumn tree i l → rank tree (x_of (column_of tree.bodies i l)) ≡ 28 * pass tree + 8 * i + l
  at_rate i l col =
      ap (λ (j : ℕ). 28 * pass tree + 8 * j + place_in tree.bodies (column_of tree.bodies i l)) (body_again tree kept lead i l col)
      ∙ ap (λ (m : ℕ). 28 * pass tree + 8 * i + m) (place_again tree kept lead i l col)

  -- ---- what the rules read
  module _ (s t : View) (R : ℕ) (h : (m : Place) → Own tree m → rank tree m < R → look m s ≡ look m t) where
    pub rest_same : (i k : ℕ) → HasBody tree i → up_rank tree i + 2 < R → ((l : ℕ) → k ≤ l → HasJointColumn tree i l → up_rank tree i + 3 * (5 - l) + 5 < R)
        → rest_from tree.bodies i k s ≡ rest_from tree.bodies i k t
    rest_same i k there first later =
        rest_reads tree i k s t (h (IA_of i) there (omega arith)) (h (p_of i) there first)
        (λ l low high.
        let col : HasJointColumn tree i l = record { there = there; below = high } in
        h (U_of (column_of tree.bodies i l)) (has_number tree kept lead i l col) (omega (arith, at_column i l col, later l low col)))
        (λ l low high.
        let col : HasJointColumn tree i l = record { there = there; below = high } in
        h (packed_of (column_of tree.bodies i l) (column_of tree.bodies i l)) (has_number tree kept lead i l col, refl) (omega (arith, at_column i l col, later l low col)))
        (λ l low high.
        let col : HasJointColumn tree i l = record { there = there; below = high } in
        h (u_of (column_of tree.bodies i l)) (has_number tree kept lead i l col) (omega (arith, at_column i l col, later l low col)))

    -- a column by its number
    U_same : (c : ℕ) → HasColumn tree c → column_rank tree c + 3 < R
        → U_at s (column_of tree.bodies (body_of_column tree.bodies c) (place_in tree.bodies c)) ≡ U_at t (column_of tree.bodies (body_of_column tree.bodies c) (place_in tree.bodies c))
    U_same c has l = subst (λ (d : ℕ). U_at s d ≡ U_at t d) (sym (number_again tree kept lead c has)) (h (U_of c) has l)

    D_same : (c : ℕ) → HasColumn tree c → column_rank tree c + 4 < R
        → D_at s (column_of tree.bodies (body_of_column tree.bodies c) (place_in tree.bodies c)) ≡ D_at t (column_of tree.bodies (body_of_column tree.bodies c) (place_in tree.bodies c))
    D_same c has l = subst (λ (d : ℕ). D_at s d ≡ D_at t d) (sym (number_again tree kept lead c has)) (h (packed_of c c) (has, refl) l)

    u_same : (c : ℕ) → HasColumn tree c → column_rank tree c + 5 < R
        → u_at s (column_of tree.bodies (body_of_column tree.bodies c) (place_in tree.bodies c)) ≡ u_at t (column_of tree.bodies (body_of_column tree.bodies c) (place_in tree.bodies c))
    u_same c has l = subst (λ (d : ℕ). u_at s d ≡ u_at t d) (sym (number_again tree kept lead c has)) (h (u_of c) has l)

    -- what the parent's acceleration is in the body, and the columns before
    pub carried_same : (i : ℕ) → HasBody tree i → 28 * pass tree + 8 * i ≤ R → Down.carried_to tree.bodies i s ≡ Down.carried_to tree.bodies i t
    carried_same i there l =
        let low : 1 ≤ i = there.from in
        let high : i ≤ length tree.bodies = there.to in
        let below : parent_at tree.bodies i < i = kept.parents i low in
        carried_reads tree i s t (h (X_of i) there (omega arith)) (h (a_of (parent_at tree.bodies i)) (omega arith) (omega arith)) (h (c_of i) there (omega arith))

    pub rates_same : (i k : ℕ) → HasBody tree i → k ≤ joint_columns tree.bodies i → 28 * pass tree + 8 * i + k ≤ R
        → (l : ℕ) → l < k → x_at s (column_of tree.bodies i l) ≡ x_at t (column_of tree.bodies i l)
    rates_same i k there few low l less =
        let col : HasJointColumn tree i l = record { there = there; below = omega arith } in
        h (x_of (column_of tree.bodies i l)) (has_number tree kept lead i l col) (omega (arith, at_rate i l col))

  reads : (row : Row) (m : Place) (s t : View) → Own tree m → ((o : Place) → Own tree o → rank tree o < rank tree m → look o s ≡ look o t) → rule tree row m s ≡ rule tree row m t
  reads row (q_of i) s t k h = refl
  reads row (X_of i) s t k h = places.X_reads tree i s t (h (q_of i) k (omega arith))
  reads row (s_of i) s t k h = refl
  reads row (v_of zero) s t k h = refl
  reads row (v_of (suc i)) s t k h =
      let l : parent_at tree.bodies (suc i) < suc i = kept.parents (suc i) (omega arith) in
      let has = has_body tree (suc i) (omega arith) k in
      v_reads tree (suc i) s t (h (X_of (suc i)) has (omega arith)) (h (v_of (parent_at tree.bodies (suc i))) (omega arith) (omega arith)) (h (s_of (suc i)) has (omega arith))
  reads row (c_of i) s t k h =
      let high = k.to in
      c_reads tree i s t (h (v_of i) high (omega arith)) (h (s_of i) k (omega arith))
  reads row (IA_of i) s t k h =
      let low = k.from in
      let high = k.to in
      IA_reads tree i s t
      (λ j l below. h (X_of j) (has_body tree j (omega arith) below) (omega arith))
      (λ j l below. h (Ia_of j) (has_body tree j (omega arith) below) (omega arith))
  reads row (p_of i) s t k h =
      let low = k.from in
      let high = k.to in
      p_reads tree i s t (h (v_of i) high (omega arith))
      (λ j l below. h (X_of j) (has_body tree j (omega arith) below) (omega arith))
      (λ j l below. h (pa_of j) (has_body tree j (omega arith) below) (omega arith))
  reads row (U_of c) s t k h =
      let i = body_of_column tree.bodies c in
      let l = place_in tree.bodies c in
      let col = column_there tree kept lead c k in
      U_reads tree i l s t (rest_same s t (column_rank tree c + 3) h i (l + 1) col.there (omega arith) (λ d low at. omega (arith, low_column i d at)))
  reads row (packed_of c d) s t k h =
      D_reads tree (body_of_column tree.bodies c) (place_in tree.bodies c) s t (U_same s t (column_rank tree c + 4) h c k.0 (omega arith))
  reads row (u_of c) s t k h =
      let i = body_of_column tree.bodies c in
      let l = place_in tree.bodies c in
      let col = column_there tree kept lead c k in
      u_reads tree row i l s t
      (rest_same s t (column_rank tree c + 5) h i (l + 1) col.there (omega arith) (λ d low at. omega (arith, low_column i d at)))
      (U_same s t (column_rank tree c + 5) h c k (omega arith))
      (D_same s t (column_rank tree c + 5) h c k (omega arith))
  reads row (Ia_of i) s t k h = Ia_reads tree i s t (rest_same s t (up_rank tree i + 21) h i 0 k (omega arith) (λ d low at. omega (arith, low_column i d at)))
  reads row (pa_of i) s t k h =
      pa_reads tree i s t (rest_same s t (up_rank tree i + 22) h i 0 k (omega arith) (λ d low at. omega (arith, low_column i d at))) (h (c_of i) k (omega arith))
  reads row (x_of c) s t k h =
      let i = body_of_column tree.bodies c in
      let l = place_in tree.bodies c in
      let col = column_there tree kept lead c k in
      let R = 28 * pass tree + 8 * i + l in
      let some : 1 ≤ i = col.there.from in
      let high : i ≤ length tree.bodies = col.there.to in
      let last : l ≤ 5 = low_column i l col in
      let below : l < joint_columns tree.bodies i = col.below in
      x_reads tree i l s t (carried_same s t R h i col.there (omega arith))
      (moved_reads tree i l s t (rates_same s t R h i l col.there (omega arith) (omega arith)))
      (U_same s t R h c k (omega arith)) (D_same s t R h c k (omega arith)) (u_same s t R h c k (omega arith))
  reads row (a_of zero) s t k h = refl
  reads row (a_of (suc i)) s t k h =
      let has = has_body tree (suc i) (omega arith) k in
      let R = 28 * pass tree + 8 * suc i + 7 in
      a_reads tree (suc i) s t (carried_same s t R h (suc i) has (omega arith))
      (moved_reads tree (suc i) (joint_columns tree.bodies (suc i)) s t
      (rates_same s t R h (suc i) (joint_columns tree.bodies (suc i)) has (omega arith) (omega (arith, few tree kept lead (suc i)))))
  reads row _ s t k h = absurd k

  -- ---- the order
  in_speeds : (m : Place) → Among m (speed_order tree) → Among m (order tree)
  in_speeds m h = among_right m (place_order tree) (speed_order tree ++ (Up.order tree ++ Down.order tree)) (among_left m (speed_order tree) (Up.order tree ++ Down.order tree) h)

  in_body : (m : Place) (i : ℕ) → HasBody tree i → Among m (Up.body_names tree i) → Among m (order tree)
  in_body m i has h =
      let low : 1 ≤ i = has.from in
      let high : i ≤ length tree.bodies = has.to in
      among_right m (place_order tree) (speed_order tree ++ (Up.order tree ++ Down.order tree))
      (among_right m (speed_order tree) (Up.order tree ++ Down.order tree)
      (among_left m (Up.order tree) (Down.order tree) (among_downward (Up.body_names tree) m i 1 (length tree.bodies + 1) low (omega arith) h)))

  in_returns : (m : Place) → Among m (Down.order tree) → Among m (order tree)
  in_returns m h =
      among_right m (place_order tree) (speed_order tree ++ (Up.order tree ++ Down.order tree))
      (among_right m (speed_order tree) (Up.order tree ++ Down.order tree) (among_right m (Up.order tree) (Down.order tree) h))

  abbrev columns : ℕ → List Place
  columns i = flat_map (column_names tree i) (downward 0 (joint_columns tree.bodies i))

  abbrev ends : ℕ → List Place
  ends i = Ia_of i ∷ pa_of i ∷ []

  in_column : (m : Place) (c : ℕ) (has : HasColumn tree c) → Among m (column_names tree (body_of_column tree.bodies c) (place_in tree.bodies c)) → Among m (order tree)
  in_column m c has h =
      let i = body_of_column tree.bodies c in
      let col = column_there tree kept lead c has in
      in_body m i col.there (inr (inr (inr (among_left m (columns i) (ends i)
      (among_downward (column_names tree i) m (place_in tree.bodies c) 0 (joint_columns tree.bodies i) (omega arith) col.below h)))))

  listed : (m : Place) → Own tree m → Among m (order tree)
  listed (q_of i) k = among_left (q_of i) (place_order tree) (speed_order tree ++ (Up.order tree ++ Down.order tree)) (places.listed tree (q_of i) k)
  listed (X_of i) k = among_left (X_of i) (place_order tree) (speed_order tree ++ (Up.order tree ++ Down.order tree)) (places.listed tree (X_of i) k)
  listed (s_of i) k = let low = k.from in let high = k.to in in_speeds (s_of i) (inr (among_upward (λ i. s_of i ∷ v_of i ∷ []) (s_of i) i 1 (length tree.bodies + 1) low (omega arith) (inl refl)))
  listed (v_of zero) k = in_speeds (v_of 0) (inl refl)
  listed (v_of (suc i)) k = in_speeds (v_of (suc i)) (inr (among_upward (λ i. s_of i ∷ v_of i ∷ []) (v_of (suc i)) (suc i) 1 (length tree.bodies + 1) (omega arith) (omega arith) (inr (inl refl))))
  listed (c_of i) k = in_body (c_of i) i k (inl refl)
  listed (IA_of i) k = in_body (IA_of i) i k (inr (inl refl))
  listed (p_of i) k = in_body (p_of i) i k (inr (inr (inl refl)))
  listed (U_of c) k = in_column (U_of c) c k (inl (ap U_of (sym (number_again tree kept lead c k))))
  listed (packed_of c d) k =
      let e : column_of tree.bodies (body_of_column tree.bodies c) (place_in tree.bodies c) ≡ c = number_again tree kept lead c k.0 in
      in_column (packed_of c d) c k.0 (inr (inl (ap (packed_of c) k.1 ∙ ap (λ (n : ℕ). packed_of n n) (sym e))))
  listed (u_of c) k = in_column (u_of c) c k (inr (inr (inl (ap u_of (sym (number_again tree kept lead c k))))))
  listed (Ia_of i) k = in_body (Ia_of i) i k (inr (inr (inr (among_right (Ia_of i) (columns i) (ends i) (inl refl)))))
  listed (pa_of i) k = in_body (pa_of i) i k (inr (inr (inr (among_right (pa_of i) (columns i) (ends i) (inr (inl refl))))))
  listed (x_of c) k =
      let i = body_of_column tree.bodies c in
      let col = column_there tree kept lead c k in
      let low : 1 ≤ i = col.there.from in
      let high : i ≤ length tree.bodies = col.there.to in
      in_returns (x_of c) (inr (among_upward (Down.body_names tree) (x_of c) i 1 (length tree.bodies + 1) low (omega arith)
      (among_left (x_of c) (flat_map (λ l. x_of (column_of tree.bodies i l) ∷ []) (upward 0 (joint_columns tree.bodies i))) (a_of i ∷ [])
      (among_upward (λ l. x_of (column_of tree.bodies i l) ∷ []) (x_of c) (place_in tree.bodies c) 0 (joint_columns tree.bodies i) (omega arith) col.below
      (inl (ap x_of (sym (number_again tree kept lead c k))))))))
  listed (a_of zero) k = in_returns (a_of 0) (inl refl)
  listed (a_of (suc i)) k =
      in_returns (a_of (suc i)) (inr (among_upward (Down.body_names tree) (a_of (suc i)) (suc i) 1 (length tree.bodies + 1) (omega arith) (omega arith)
      (among_right (a_of (suc i)) (flat_map (λ l. x_of (column_of tree.bodies (suc i) l) ∷ []) (upward 0 (joint_columns tree.bodies (suc i)))) (a_of (suc i) ∷ []) (inl refl))))
  listed _ k = absurd k

  -- ---- ranks along the order
  abbrev r : Place → ℕ
  r = rank tree

  abbrev K : Place → Type 0
  K = Own tree

  column_climbs : (i : ℕ) → HasBody tree i → (l : ℕ) → l < joint_columns tree.bodies i → Climbs r K (up_rank tree i + 3 + 3 * (6 - (l + 1))) (column_names tree i l) (up_rank tree i + 3 + 3 * (6 - l))
  column_climbs i there l below =
      let col : HasJointColumn tree i l = record { there = there; below = below } in
      let has = has_number tree kept lead i l col in
      let at = at_column i l col in
      let last : l ≤ 5 = low_column i l col in
      (has, omega (arith, at), ((has, refl), omega arith, (has, omega arith, omega (arith, at))))

  columns_climb : (i : ℕ) → HasBody tree i → Climbs r K (up_rank tree i + 3) (columns i) (up_rank tree i + 21)
  columns_climb i there =
      let count = joint_columns tree.bodies i in
      let most : count ≤ 6 = few tree kept lead i in
      climbs_widen r K (columns i) (up_rank tree i + 3 + 3 * (6 - count)) (up_rank tree i + 3 + 3 * (6 - 0)) (up_rank tree i + 3) (up_rank tree i + 21) (omega arith) (omega arith)
      (climbs_downward r K (column_names tree i) (λ l. up_rank tree i + 3 + 3 * (6 - l)) 0 count (omega arith) (λ l low high. column_climbs i there l high))

  abbrev up_edge : ℕ → ℕ
  up_edge i = 4 * pass tree + 24 * (pass tree - i)

  pub body_climbs : (i : ℕ) → HasBody tree i → Climbs (rank tree) (Own tree) (4 * pass tree + 24 * (pass tree - (i + 1))) (Up.body_names tree i) (4 * pass tree + 24 * (pass tree - i))
  body_climbs i has =
      let low : 1 ≤ i = has.from in
      let high : i ≤ length tree.bodies = has.to in (
        has,
        omega arith,
        (
          has,
          omega arith,
          (
            has,
            omega arith,
            climbs_append r K (columns i) (ends i) (up_rank tree i + 2 + 1) (up_rank tree i + 21) (up_edge i)
                (climbs_widen r K (columns i) (up_rank tree i + 3) (up_rank tree i + 21) (up_rank tree i + 2 + 1) (up_rank tree i + 21) (omega arith) (omega arith) (columns_climb i has))
                (has, omega arith, (has, omega arith, omega arith)),
          ),
        ),
      )

  rate_climbs : (i : ℕ) → HasBody tree i → (l : ℕ) → l < joint_columns tree.bodies i → Climbs r K (28 * pass tree + 8 * i + l) (x_of (column_of tree.bodies i l) ∷ []) (28 * pass tree + 8 * i + (l + 1))
  rate_climbs i there l below =
      let col : HasJointColumn tree i l = record { there = there; below = below } in
      let at = at_rate i l col in
      (has_number tree kept lead i l col, omega (arith, at), omega (arith, at))

  return_climbs : (i : ℕ) → HasBody tree i → Climbs r K (28 * pass tree + 8 * i) (Down.body_names tree i) (28 * pass tree + 8 * (i + 1))
  return_climbs i has =
      let count = joint_columns tree.bodies i in
      let most : count ≤ 6 = few tree kept lead i in
      let base = 28 * pass tree + 8 * i in
      let rates = flat_map (λ l. x_of (column_of tree.bodies i l) ∷ []) (upward 0 count) in
      let high : i ≤ length tree.bodies = has.to in
      climbs_append r K rates (a_of i ∷ []) base (base + 6) (28 * pass tree + 8 * (i + 1))
      (climbs_widen r K rates (base + 0) (base + count) base (base + 6) (omega arith) (omega arith)
      (climbs_upward r K (λ l. x_of (column_of tree.bodies i l) ∷ []) (λ l. base + l) 0 count (omega arith) (λ l low high. rate_climbs i has l high)))
      (high, omega arith, omega arith)

  climbs : Climbs r K 2 (order tree) (28 * pass tree + 8 * (pass tree))
  climbs =
      let n = length tree.bodies in
      let p = pass tree in
      let end = 28 * p + 8 * p in
      let speeds = flat_map (λ i. s_of i ∷ v_of i ∷ []) (upward 1 (n + 1)) in
      let returns = flat_map (Down.body_names tree) (upward 1 (n + 1)) in
      climbs_append r K (place_order tree) (speed_order tree ++ (Up.order tree ++ Down.order tree)) 2 (2 * p) end
      (climbs_upward r K (λ i. q_of i ∷ X_of i ∷ []) (λ i. 2 * i) 1 (n + 1) (omega arith)
      (λ i low high. let has = has_body tree i low (omega arith) in (has, omega arith, (has, omega arith, omega arith))))
      (climbs_append r K (speed_order tree) (Up.order tree ++ Down.order tree) (2 * p) (4 * p) end (
        omega arith,
        omega arith,
        climbs_widen r K speeds (2 * p + 2 * 1) (2 * p + 2 * (n + 1)) (2 * p + 2 * 0 + 1 + 1) (4 * p) (omega arith) (omega arith)
            (climbs_upward r K (λ i. s_of i ∷ v_of i ∷ []) (λ i. 2 * p + 2 * i) 1 (n + 1) (omega arith)
            (λ i low high. (has_body tree i low (omega arith), omega arith, (omega arith, omega arith, omega arith)))),
      )
      (climbs_append r K (Up.order tree) (Down.order tree) (4 * p) (28 * p) end
      (climbs_widen r K (Up.order tree) (up_edge (n + 1)) (up_edge 1) (4 * p) (28 * p) (omega arith) (omega arith)
      (climbs_downward r K (Up.body_names tree) up_edge 1 (n + 1) (omega arith) (λ i low high. body_climbs i (has_body tree i low (omega arith))))) (
        omega arith,
        omega arith,
        climbs_widen r K returns (28 * p + 8 * 1) (28 * p + 8 * (n + 1)) (28 * p + 8 * 0 + 7 + 1) end (omega arith) (omega arith)
            (climbs_upward r K (Down.body_names tree) (λ i. 28 * p + 8 * i) 1 (n + 1) (omega arith) (λ i low high. return_climbs i (has_body tree i low (omega arith)))),
      )))

  pub is_call : (row : Row) (extent : Extent) → HasRoom tree extent → IsCall (call tree row extent)
  is_call row extent room = record {
    ascends = room.ascends;
    first = 2;
    end = 28 * pass tree + 8 * (pass tree);
    climbs = climbs;
    listed = listed;
    inside = inside tree extent room;
    apart = apart tree row extent;
    reads = λ m s t k g h. reads row m s t k h;
    runs = λ w. refl;
  }
