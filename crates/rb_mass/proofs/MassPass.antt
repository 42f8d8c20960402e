-- The values of the mass table, and the first refusal, are determined by the robot and the places alone.
use Rattle.std.proofs.Common.{◌≡◌, ℕ, ◌+◌, ◌-◌, ◌*◌, ◌<◌, ◌≤◌, ◌==◌, ◌||◌, if◌then◌else◌, [], ◌∷◌, ◌++◌, length, flat_map, max, min, Bool, true, false, Ok, inl, refl, ap, sym, ◌∙◌, subst, arith}
use Rattle.rb_num.specs.Interval.{Interval}
use Rattle.rb_frac.specs.Spatial.{Inertia, Place}
use Rattle.rb_sweep.specs.Sweep.{Among, upward}
use Rattle.rb_sweep.specs.Naming.{run}
use Rattle.rb_sweep.proofs.Climbing.{Climbs, climbs_append, climbs_widen, climbs_upward, climbs_downward, among_left, among_right, among_upward, among_downward, upward_same, downward_same}
use Rattle.rb_sweep.proofs.NamingLaws.{Shape, IsOrdered}
use Rattle.rb_work.specs.Path.{is_on, packed_place}
use Rattle.rb_work.specs.View.{View, Extent, X_at, I_at, full_place}
use Rattle.rb_work.specs.Place.{I_of, H_of, packed_of}
use Rattle.rb_work.proofs.PathLaws.{is_on_true, on_from_test}
use Rattle.rb_work.proofs.Sizes.{sizes_of, sizes_for, sizes_I, sizes_H, sizes_packed}
use Rattle.rb_tree.specs.Columns.{full_at, first_full, column_count}
use Rattle.rb_tree.specs.Robot.{Tree, HasBody, AreBodies}
use Rattle.rb_mass.specs.Inertias.{bear, add_child, I_rule}
use Rattle.rb_mass.specs.Entries.{HasJointColumn, HasEntry, above, met_columns, entry_at, H_rule, carried_rule}
use Rattle.rb_mass.specs.Table.{ups_of, add_pair, add_body, add_column, column_of, add_joint, M_rule}
use Rattle.rb_mass.specs.Mass.{Name, inertia, entry, carried, mass, ValueOf, rule, look, put, entries_met, column_names, joint_names, mass_names, inertia_order, entry_order, mass_order, order, naming, SamePlaces}
use Rattle.rb_mass.proofs.Counts.{Known, rank, HasRoom, few_at, met_within, first_number, second_number, same_entry, inside_inertia, inside_entry, inside_mass}
use Rattle.rb_mass.proofs.Ways.{ups_ascend}
use Rattle.rb_mass.proofs.Placed.{look_same, look_apart}
use Rattle.rb_mass.proofs.Runs.{force_same}

-- ---- what the rules read
child_same : (tree : Tree) (i j : ℕ) (s t : View) (total : Inertia Interval) → X_at s j ≡ X_at t j → I_at s j ≡ I_at t j → add_child tree.bodies s i j total ≡ add_child tree.bodies t i j total
unfolding add_child bear
child_same tree i j s t total hX hI = rw (hX, hI) refl

I_reads : (tree : Tree) (i : ℕ) (s t : View) → SamePlaces tree s t → ((j : ℕ) → i < j → HasBody tree j → I_at s j ≡ I_at t j) → I_rule tree i s ≡ I_rule tree i t
unfolding I_rule
I_reads tree i s t hX hI =
    let same = λ (x : Inertia Interval). downward_same (add_child tree.bodies s i) (add_child tree.bodies t i) (i + 1) (length tree.bodies + 1)
    (λ j sum low high. let has : HasBody tree j = record { from = omega arith; to = omega arith } in child_same tree i j s t sum (hX j has) (hI j (omega arith) has)) x in
    rw (same _) refl

H_reads : (tree : Tree) (i k n l : ℕ) (s t : View) → I_at s i ≡ I_at t i → SamePlaces tree s t → H_rule tree i k n l s ≡ H_rule tree i k n l t
unfolding H_rule
H_reads tree i k n l s t hI hX = rw (force_same tree s t i k n hI hX) refl

carried_reads : (tree : Tree) (i k : ℕ) (s t : View) → I_at s i ≡ I_at t i → SamePlaces tree s t → carried_rule tree i k s ≡ carried_rule tree i k t
unfolding carried_rule
carried_reads tree i k s t hI hX = rw (force_same tree s t i k (length tree.bodies) hI hX) refl

module _ (tree : Tree) (s t : View) (same : (i k n l : ℕ) → HasEntry tree i k n l → entry_at tree.bodies s i k (above tree i n) l ≡ entry_at tree.bodies t i k (above tree i n) l)
    (c d : ℕ) where
  pair_same : (i k n l : ℕ) (sum : Interval) → HasEntry tree i k n l → add_pair tree.bodies s c d i k (above tree i n) l sum ≡ add_pair tree.bodies t c d i k (above tree i n) l sum
  unfolding add_pair
  pair_same i k n l sum has = rw (same i k n l has) refl

  body_same : (i k n : ℕ) (sum : Interval) → HasJointColumn tree i k → n < length tree.bodies
      → add_body tree.bodies s c d i k (above tree i n) sum ≡ add_body tree.bodies t c d i k (above tree i n) sum
  unfolding add_body
  body_same i k n sum has h =
      downward_same (add_pair tree.bodies s c d i k (above tree i n)) (add_pair tree.bodies t c d i k (above tree i n)) 0 (met_columns tree.bodies i k (above tree i n))
      (λ l x low high. pair_same i k n l x (record { column = has; steps = h; below = high })) sum

  column_same : (i k : ℕ) (sum : Interval) → HasJointColumn tree i k → add_column tree s c d i k sum ≡ add_column tree t c d i k sum
  unfolding add_column
  column_same i k sum has =
      ap (λ r. if column_of tree.bodies i k == c || column_of tree.bodies i k == d then r else Ok sum)
      (upward_same (λ n. add_body tree.bodies s c d i k (above tree i n)) (λ n. add_body tree.bodies t c d i k (above tree i n)) 0 (length tree.bodies)
      (λ n x low high. body_same i k n x has high) sum)

  joint_same : (i : ℕ) (sum : Interval) → HasBody tree i → add_joint tree s c d i sum ≡ add_joint tree t c d i sum
  unfolding add_joint
  joint_same i sum has =
      upward_same (add_column tree s c d i) (add_column tree t c d i) 0 (full_at tree.bodies i) (λ k x low high. column_same i k x (record { body = has; below = high })) sum

  M_reads : M_rule tree c d s ≡ M_rule tree c d t
  unfolding M_rule
  M_reads =
      let all = λ (x : Interval). upward_same (add_joint tree s c d) (add_joint tree t c d) 1 (length tree.bodies + 1)
      (λ i sum low high. joint_same i sum (record { from = low; to = omega arith })) x in
      rw (all _) refl

module _ (tree : Tree) (kept : AreBodies tree.bodies) where
  pub reads : (n : Name) (s t : View) → Known tree n → SamePlaces tree s t → ((m : Name) → Known tree m → rank m < rank n → look tree m s ≡ look tree m t) → rule tree n s ≡ rule tree n t
  reads (inertia i) s t k g h = let few = kept.few in let to = k.to in I_reads tree i s t g (λ j l has. let high = has.to in h (inertia j) has (omega arith))
  reads (entry i k n l) s t has g h = H_reads tree i k n l s t (h (inertia i) has.column.body (omega arith)) g
  reads (carried i k) s t has g h = carried_reads tree i k s t (h (inertia i) has.body (omega arith)) g
  reads (mass c d) s t has g h =
      M_reads tree s t
      (λ i k n l there.
      let few = kept.few in
      let to = there.column.body.to in
      let six = few_at tree.bodies i in
      let met = met_within tree.bodies i k (above tree i n) there.column.below in
      let seven = few_at tree.bodies (above tree i n) in
      let steps = there.steps in
      let column = there.column.below in
      let below = there.below in
      h (entry i k n l) there (omega (arith, few, to, six, met, seven, steps, column, below))) c d

  -- ---- the order
  has_body : (i : ℕ) → 1 ≤ i → i < length tree.bodies + 1 → HasBody tree i
  has_body i low high = record { from = low; to = omega arith }

  in_entries : (i k : ℕ) (m : Name) → HasJointColumn tree i k → Among m (column_names tree i k) → Among m (order tree)
  in_entries i k m has h =
      let low = has.body.from in
      let high = has.body.to in
      let below = has.below in
      among_right m (inertia_order tree) (entry_order tree ++ mass_order tree)
      (among_left m (entry_order tree) (mass_order tree)
      (among_upward (joint_names tree) m i 1 (length tree.bodies + 1) low (omega arith)
      (among_upward (column_names tree i) m k 0 (full_at tree.bodies i) (omega arith) below h)))

  listed : (m : Name) → Known tree m → Among m (order tree)
  listed (inertia i) k =
      let low = k.from in
      let high = k.to in
      among_left (inertia i) (inertia_order tree) (entry_order tree ++ mass_order tree) (among_downward (λ i. inertia i ∷ []) (inertia i) i 1 (length tree.bodies + 1) low (omega arith) (inl refl))
  listed (entry i k n l) has =
      let steps = has.steps in
      let below = has.below in
      in_entries i k (entry i k n l) has.column
      (among_left (entry i k n l) (flat_map (entries_met tree i k) (upward 0 (length tree.bodies))) (carried i k ∷ [])
      (among_upward (entries_met tree i k) (entry i k n l) n 0 (length tree.bodies) (omega arith) steps
      (among_upward (λ l. entry i k n l ∷ []) (entry i k n l) l 0 (met_columns tree.bodies i k (above tree i n)) (omega arith) below (inl refl))))
  listed (carried i k) has =
      in_entries i k (carried i k) has (among_right (carried i k) (flat_map (entries_met tree i k) (upward 0 (length tree.bodies))) (carried i k ∷ []) (inl refl))
  listed (mass c d) has =
      let from = has.from in
      let ord = has.order in
      let to = has.to in
      let on = is_on_true (ups_of tree) (ups_ascend tree kept) d c has.on in
      among_right (mass c d) (inertia_order tree) (entry_order tree ++ mass_order tree)
      (among_right (mass c d) (entry_order tree) (mass_order tree)
      (among_upward (mass_names tree) (mass c d) c 1 (column_count tree.bodies + 1) from (omega arith)
      (among_upward (λ d. if is_on (ups_of tree) d c then mass c d ∷ [] else []) (mass c d) d c (column_count tree.bodies + 1) ord (omega arith)
      (subst (λ (b : Bool). Among (mass c d) (if b then mass c d ∷ [] else [])) (sym on) (inl refl)))))

  climbs_inertias : Climbs rank (Known tree) 0 (inertia_order tree) 1000
  climbs_inertias =
      let few = kept.few in
      climbs_widen rank (Known tree) (inertia_order tree) (257 - (length tree.bodies + 1)) (257 - 1) 0 1000 (omega arith) (omega arith)
      (climbs_downward rank (Known tree) (λ i. inertia i ∷ []) (λ i. 257 - i) 1 (length tree.bodies + 1) (omega arith)
      (λ i low high. (has_body i low high, omega (arith, few), omega (arith, few))))

  climbs_met : (i k n : ℕ) → HasJointColumn tree i k → n < length tree.bodies
      → Climbs rank (Known tree) (1000 + i * 9252 + k * 1542 + n * 6) (entries_met tree i k n) (1000 + i * 9252 + k * 1542 + (n + 1) * 6)
  climbs_met i k n has h =
      let base = 1000 + i * 9252 + k * 1542 + n * 6 in
      let met = met_within tree.bodies i k (above tree i n) has.below in
      let six = few_at tree.bodies (above tree i n) in
      climbs_widen rank (Known tree) (entries_met tree i k n) (base + 0) (base + met_columns tree.bodies i k (above tree i n)) base (1000 + i * 9252 + k * 1542 + (n + 1) * 6)
      (omega arith) (omega (arith, met, six))
      (climbs_upward rank (Known tree) (λ l. entry i k n l ∷ []) (λ l. base + l) 0 (met_columns tree.bodies i k (above tree i n)) (omega arith)
      (λ l low high. (record { column = has; steps = h; below = high }, omega arith, omega arith)))

  climbs_column : (i k : ℕ) → HasJointColumn tree i k → Climbs rank (Known tree) (1000 + i * 9252 + k * 1542) (column_names tree i k) (1000 + i * 9252 + (k + 1) * 1542)
  climbs_column i k has =
      let few = kept.few in
      let base = 1000 + i * 9252 + k * 1542 in
      let names = flat_map (entries_met tree i k) (upward 0 (length tree.bodies)) in
      climbs_append rank (Known tree) names (carried i k ∷ []) base (base + 1536) (1000 + i * 9252 + (k + 1) * 1542)
      (climbs_widen rank (Known tree) names (base + 0 * 6) (base + length tree.bodies * 6) base (base + 1536) (omega arith) (omega (arith, few))
      (climbs_upward rank (Known tree) (entries_met tree i k) (λ n. base + n * 6) 0 (length tree.bodies) (omega arith) (λ n low high. climbs_met i k n has high)))
      (has, omega arith, omega arith)

  climbs_joint : (i : ℕ) → HasBody tree i → Climbs rank (Known tree) (1000 + i * 9252) (joint_names tree i) (1000 + (i + 1) * 9252)
  climbs_joint i has =
      let six = few_at tree.bodies i in
      climbs_widen rank (Known tree) (joint_names tree i) (1000 + i * 9252 + 0 * 1542) (1000 + i * 9252 + full_at tree.bodies i * 1542) (1000 + i * 9252) (1000 + (i + 1) * 9252)
      (omega arith) (omega (arith, six))
      (climbs_upward rank (Known tree) (column_names tree i) (λ k. 1000 + i * 9252 + k * 1542) 0 (full_at tree.bodies i) (omega arith)
      (λ k low high. climbs_column i k (record { body = has; below = high })))

  climbs_entries : Climbs rank (Known tree) 1000 (entry_order tree) 3000000
  climbs_entries =
      let few = kept.few in
      climbs_widen rank (Known tree) (entry_order tree) (1000 + 1 * 9252) (1000 + (length tree.bodies + 1) * 9252) 1000 3000000 (omega arith) (omega (arith, few))
      (climbs_upward rank (Known tree) (joint_names tree) (λ i. 1000 + i * 9252) 1 (length tree.bodies + 1) (omega arith) (λ i low high. climbs_joint i (has_body i low high)))

  climbs_mass : (c d : ℕ) → 1 ≤ c → c ≤ d → d ≤ column_count tree.bodies → (b : Bool) → is_on (ups_of tree) d c ≡ b
      → Climbs rank (Known tree) (3000000 + c * 65 + d) (if b then mass c d ∷ [] else []) (3000000 + c * 65 + (d + 1))
  climbs_mass c d low ord to true e = (record { from = low; order = ord; to = to; on = on_from_test (ups_of tree) d c e }, omega arith, omega arith)
  climbs_mass c d low ord to false e = omega arith

  climbs_masses : Climbs rank (Known tree) 3000000 (mass_order tree) 3005000
  climbs_masses =
      let n = column_count tree.bodies in
      let few = kept.few_columns in
      climbs_widen rank (Known tree) (mass_order tree) (3000000 + 1 * 65) (3000000 + (n + 1) * 65) 3000000 3005000 (omega arith) (omega (arith, few))
      (climbs_upward rank (Known tree) (mass_names tree) (λ c. 3000000 + c * 65) 1 (n + 1) (omega arith)
      (λ c low high. climbs_widen rank (Known tree) (mass_names tree c) (3000000 + c * 65 + c) (3000000 + c * 65 + (n + 1)) (3000000 + c * 65) (3000000 + (c + 1) * 65)
      (omega arith) (omega (arith, few))
      (climbs_upward rank (Known tree) (λ d. if is_on (ups_of tree) d c then mass c d ∷ [] else []) (λ d. 3000000 + c * 65 + d) c (n + 1) (omega arith)
      (λ d from below. climbs_mass c d low from (omega arith) (is_on (ups_of tree) d c) refl))))

  climbs : Climbs rank (Known tree) 0 (order tree) 3005000
  climbs =
      climbs_append rank (Known tree) (inertia_order tree) (entry_order tree ++ mass_order tree) 0 1000 3005000 climbs_inertias
      (climbs_append rank (Known tree) (entry_order tree) (mass_order tree) 1000 3000000 3005000 climbs_entries climbs_masses)

  module _ (extent : Extent) (room : HasRoom tree extent) where
    put_same : (n : Name) (x : ValueOf n) (w : View) → Known tree n → sizes_of w ≡ sizes_for extent → look tree n (put tree n x w) ≡ x
    put_same (inertia i) x w has f = look_same extent room.ascends (I_of i) x w (inside_inertia tree kept extent room i has) f
    put_same (entry i k n l) x w has f =
        look_same extent room.ascends (H_of (first_full tree.bodies i + k) (first_full tree.bodies (above tree i n) + l)) x w (inside_entry tree kept extent room i k n l has) f
    put_same (carried i k) x w has f = refl
    put_same (mass c d) x w has f = look_same extent room.ascends (packed_of (max c d) (min c d)) x w (inside_mass tree kept extent room c d has) f

    put_other : (m n : Name) (x : ValueOf n) (w : View) → Known tree m → Known tree n → sizes_of w ≡ sizes_for extent → rank m < rank n → look tree m (put tree n x w) ≡ look tree m w
    put_other (inertia i) (inertia j) x w has have f l =
        let few = kept.few in
        let hi = has.to in
        let hj = have.to in
        look_apart extent room.ascends (I_of i) (I_of j) x w (λ same. absurd (omega arith)) (omega (arith, few)) (omega (arith, few)) (inside_inertia tree kept extent room i has)
        (inside_inertia tree kept extent room j have) f
    put_other (entry i k n l) (entry j m o q) x w has have f less =
        let few = kept.few_full in
        let a = first_number tree kept i k has.column in
        let b = second_number tree kept i k n l has in
        let c = first_number tree kept j m have.column in
        let d = second_number tree kept j m o q have in
        look_apart extent room.ascends (H_of (first_full tree.bodies i + k) (first_full tree.bodies (above tree i n) + l))
        (H_of (first_full tree.bodies j + m) (first_full tree.bodies (above tree j o) + q)) x w
        (λ same.
        let first : first_full tree.bodies i + k ≡ first_full tree.bodies j + m = omega (arith, few, a, b, c, d, same) in
        let second : first_full tree.bodies (above tree i n) + l ≡ first_full tree.bodies (above tree j o) + q = omega (arith, first, same) in
        let e = same_entry tree kept i k n l j m o q has have first second in
        absurd (omega (arith, e, less)))
        (omega (arith, few, a, b)) (omega (arith, few, c, d)) (inside_entry tree kept extent room i k n l has) (inside_entry tree kept extent room j m o q have) f
    put_other (mass c d) (mass a b) x w has have f less =
        let few = kept.few_columns in
        let hc = has.order in
        let hd = has.to in
        let ha = have.order in
        let hb = have.to in
        look_apart extent room.ascends (packed_of (max c d) (min c d)) (packed_of (max a b) (min a b)) x w (λ same. absurd (omega (arith, few, hc, hd, ha, hb, same, less)))
        (omega (arith, few, hc, hd)) (omega (arith, few, ha, hb)) (inside_mass tree kept extent room c d has) (inside_mass tree kept extent room a b have) f
    put_other (carried i k) n x w has have f l = refl
    put_other m (carried i k) x w has have f l = refl
    put_other _ _ x w has have f l = refl

    put_fits : (n : Name) (x : ValueOf n) (w : View) → sizes_of w ≡ sizes_for extent → sizes_of (put tree n x w) ≡ sizes_for extent
    put_fits (inertia i) x w f = sizes_I w i x ∙ f
    put_fits (entry i k n l) x w f = sizes_H w (full_place w (first_full tree.bodies i + k) (first_full tree.bodies (above tree i n) + l)) x ∙ f
    put_fits (carried i k) x w f = f
    put_fits (mass c d) x w f = sizes_packed w (packed_place w.up (max c d) (min c d)) x ∙ f

    -- a work without what is found here
    abbrev pub rest : View → View
    rest w = record w { I = []; H = []; packed = [] }

    put_kept : (n : Name) (x : ValueOf n) (w : View) → rest w ≡ rest (put tree n x w)
    put_kept (inertia i) x w = refl
    put_kept (entry i k n l) x w = refl
    put_kept (carried i k) x w = refl
    put_kept (mass c d) x w = refl

    abbrev pub shape : Shape (naming tree)
    shape = record {
      rank = rank;
      Known = Known tree;
      Fits = λ w. sizes_of w ≡ sizes_for extent;
      Kept = View;
      kept = rest;
      Given = (i : ℕ) × HasBody tree i;
      Worth = λ g. Place Interval;
      given = λ g w. X_at w g.0;
      sweep = run (naming tree) (order tree);
    }

    pub ordered : IsOrdered (naming tree) shape
    ordered = record {
      first = 0;
      end = 3005000;
      climbs = climbs;
      listed = listed;
      reads = λ n s t k g h. reads n s t k (λ i has. g (i, has)) h;
      put_same = put_same;
      put_other = put_other;
      put_fits = put_fits;
      put_kept = λ n x w k. put_kept n x w;
      runs = λ w. refl;
    }
