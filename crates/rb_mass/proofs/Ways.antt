-- The columns of joints by number, and the bodies above a body.
use Rattle.std.proofs.Common.{◌≡◌, ◌≢◌, ℕ, zero, suc, ◌+◌, ◌-◌, ◌<◌, ◌≤◌, ◌==◌, ◌||◌, if◌then◌else◌, List, [], ◌∷◌, length, map, take, sum_by, slice_get, slice_index_or, Bool, true, false, max, min, Option, None, Some, Result, Ok, Err, inl, inr, refl, ap, sym, ◌∙◌, subst, arith}
use Rattle.std.specs.List.{list_any}
use Rattle.std.specs.Option.{option_map_or}
use Rattle.std.proofs.lemmas.Bool.{cases_lt}
use Rattle.std.proofs.lemmas.List.{length-map, get_or-map}
use Rattle.rb_result.specs.Steps.{◌>>=◌}
use Rattle.rb_sweep.specs.Sweep.{sweep, counting_up, upward, downward}
use Rattle.rb_sweep.proofs.Climbing.{then_same, length-upward, upward_at}
use Rattle.rb_sweep.proofs.SweepSteps.{upward_next, upward_done, sweep_refused, sweep_down_refused, sweep_down_done}
use Rattle.rb_num.specs.Interval.{Interval}
use Rattle.rb_num.specs.declared.interval.NumFault.{NumFault}
use Rattle.rb_frac.specs.Spatial.{Force, Inertia}
use Rattle.rb_flat.specs.Joint as Kinds
use Rattle.rb_joint.specs.Any.{kind_of}
use Rattle.rb_work.specs.Path.{above, Ascends, path, IsOn}
use Rattle.rb_work.specs.View.{View}
use Rattle.rb_work.proofs.PathLaws.{path_next}
use Rattle.rb_work.proofs.PathSteps.{path_step_next, path_step_refused, path_step_done}
use Rattle.rb_tree.specs.declared.robot.Body.{Body}
use Rattle.rb_tree.specs.Columns.{body_at, parent_at, full_at, first_full, full_columns, start_behind, column_count, up_of, AreUps}
use Rattle.rb_tree.specs.Numbers.{joint_at}
use Rattle.rb_tree.specs.Shape.{shape_of}
use Rattle.rb_tree.specs.Robot.{Tree, HasBody, AreBodies}
use Rattle.rb_tree.proofs.ColumnLaws.{sum_more}
use Rattle.rb_tree.proofs.Spans.{up_below}
use Rattle.rb_composite.specs.Composite.{above as above_in}
use Rattle.rb_composite.proofs.Paths.{ancestor-here, ancestor-next}
use Rattle.rb_mass.specs.Inertias.{bear, add_child}
use Rattle.rb_mass.specs.Entries.{above as above_by, met_columns}
use Rattle.rb_mass.specs.Table.{ups_of, column_of, add_pair, add_body, add_column}
use Rattle.rb_mass.specs.Steps.{parents_of, Way, way_step, way_from}

full_by : (o : Option Body) → option_map_or full_columns o 0 ≡ Kinds.column_count (kind_of (option_map_or (λ (body : Body). body.joint) o (joint_at [] 0)))
full_by None = refl
full_by (Some body) = refl

-- the columns of a body's joint
pub full_is : (bodies : List Body) (i : ℕ) → full_at bodies i ≡ Kinds.column_count (kind_of (joint_at bodies i))
full_is bodies i = full_by (body_at bodies i)

-- ---- full numbers
past_end : (bodies : List Body) (k : ℕ) → slice_get bodies k ≡ None → take (suc k) bodies ≡ take k bodies
past_end [] zero e = refl
past_end [] (suc k) e = refl
past_end (b ∷ bodies) zero e = absurd cc
past_end (b ∷ bodies) (suc k) e = ap (λ xs. b ∷ xs) (past_end bodies k e)

pub sum_next : (f : Body → ℕ) (bodies : List Body) (k : ℕ) → sum_by f (take (suc k) bodies) ≡ sum_by f (take k bodies) + option_map_or f (slice_get bodies k) 0
sum_next f bodies k = next (slice_get bodies k) refl
  where
    next : (o : Option Body) → slice_get bodies k ≡ o → sum_by f (take (suc k) bodies) ≡ sum_by f (take k bodies) + option_map_or f o 0
    next None e = ap (sum_by f) (past_end bodies k e) ∙ omega arith
    next (Some b) e = sum_more f bodies k b e

sum_rises : (bodies : List Body) (i j : ℕ) → i ≤ j → sum_by full_columns (take i bodies) ≤ sum_by full_columns (take j bodies)
sum_rises bodies i zero h = let e : i ≡ 0 = omega arith in subst (λ (k : ℕ). sum_by full_columns (take k bodies) ≤ sum_by full_columns (take 0 bodies)) (sym e) (omega arith)
sum_rises bodies i (suc j) h =
    elim (cases_lt i (suc j)) [
      | inl l ↦ let r : sum_by full_columns (take i bodies) ≤ sum_by full_columns (take j bodies) = sum_rises bodies i j (omega arith) in let n = sum_next full_columns bodies j in omega (arith, r, n)
      | inr g ↦ let e : i ≡ suc j = omega arith in subst (λ (k : ℕ). sum_by full_columns (take k bodies) ≤ sum_by full_columns (take (suc j) bodies)) (sym e) (omega arith)
    ]

-- the columns of a body's joint come before those of a later body
pub full_rises : (bodies : List Body) (a i : ℕ) → 1 ≤ a → a < i → first_full bodies a + full_at bodies a ≤ first_full bodies i
unfolding start_behind
full_rises bodies zero i low h = absurd (omega arith)
full_rises bodies (suc a) i low h =
    let n = sum_next full_columns bodies a in
    let r = sum_rises bodies (suc a) (i - 1) (omega arith) in
    let e : suc a - 1 ≡ a = omega arith in
    let s : sum_by full_columns (take (suc a - 1) bodies) ≡ sum_by full_columns (take a bodies) = ap (λ (m : ℕ). sum_by full_columns (take m bodies)) e in
    omega (arith, n, r, s)

-- those of a pair
pub met_below : (bodies : List Body) (i k a l : ℕ) → 1 ≤ a → a ≤ i → l < met_columns bodies i k a → first_full bodies a + l ≤ first_full bodies i + k
met_below bodies i k a l low high h =
    elim (cases_lt a i) [
      | inl lt ↦
          let n : (a == i) ≡ false = grind arith in
          let m : l < full_at bodies a = subst (λ (b : Bool). l < (if b then k + 1 else full_at bodies a)) n h in
          let r = full_rises bodies a i low lt in
          omega (arith, r, m)
      | inr ge ↦
          let e : i ≡ a = omega arith in
          let n : (a == i) ≡ true = grind arith in
          let m : l < k + 1 = subst (λ (b : Bool). l < (if b then k + 1 else full_at bodies a)) n h in
          let r : first_full bodies i ≡ first_full bodies a = ap (first_full bodies) e in
          omega (arith, r, m)
    ]

-- ---- children
pub child_added : (bodies : List Body) (w : View) (i j : ℕ) (total : Inertia Interval) (r : Result (Inertia Interval) NumFault) → parent_at bodies j ≡ i → bear w j total ≡ r → add_child bodies w i j total ≡ r
unfolding add_child
child_added bodies w i j total r e h = let b : (parent_at bodies j == i) ≡ true = grind arith in ap (λ (t : Bool). if t then bear w j total else Ok total) b ∙ h

pub child_passed : (bodies : List Body) (w : View) (i j : ℕ) (total : Inertia Interval) → parent_at bodies j ≢ i → add_child bodies w i j total ≡ Ok total
unfolding add_child
child_passed bodies w i j total e = let b : (parent_at bodies j == i) ≡ false = grind arith in ap (λ (t : Bool). if t then bear w j total else Ok total) b

pub ruleset children = (child_added, child_passed)

-- ---- the bodies above a body
mapped : (xs : List Body) (k : ℕ) → slice_index_or (map (λ (body : Body). body.parent) xs) k 0 ≡ option_map_or (λ (body : Body). body.parent) (slice_get xs k) 0
mapped [] k = refl
mapped (x ∷ xs) zero = refl
mapped (x ∷ xs) (suc k) = mapped xs k

pub above_is : (bodies : List Body) (i : ℕ) → above (parents_of bodies) i ≡ parent_at bodies i
above_is bodies zero = refl
above_is bodies (suc k) = mapped bodies k

pub parents_ascend : (bodies : List Body) → AreBodies bodies → Ascends (parents_of bodies)
parents_ascend bodies kept i low high = rw above_is (kept.parents i low)

module _ {S E : Type 0} (bodies : List Body) (kept : AreBodies bodies) (step : ℕ → S → Result S E) where
  pub body_path_next : (a : ℕ) (s t : S) → 1 ≤ a → step a s ≡ Ok t → sweep step (path (parents_of bodies) a) s ≡ sweep step (path (parents_of bodies) (parent_at bodies a)) t
  body_path_next a s t low e =
      path_step_next (parents_of bodies) (parents_ascend bodies kept) step a s t low e ∙ ap (λ b. sweep step (path (parents_of bodies) b) t) (above_is bodies a)

  pub body_path_refused : (a : ℕ) (s : S) (e : E) → 1 ≤ a → step a s ≡ Err e → sweep step (path (parents_of bodies) a) s ≡ Err e
  body_path_refused a s e low r = path_step_refused (parents_of bodies) (parents_ascend bodies kept) step a s e low r

  pub body_path_done : (a : ℕ) (s : S) → a ≡ 0 → sweep step (path (parents_of bodies) a) s ≡ Ok s
  body_path_done a s e = path_step_done (parents_of bodies) step a s e

pub ruleset body_paths = (body_path_next, body_path_refused, body_path_done)

-- ---- whether one of some numbers passes a test
pub any_here : (p : ℕ → Bool) (i hi : ℕ) → i < hi → p i ≡ true → list_any p (upward i hi) ≡ true
any_here p i hi h e = rw (upward_next i hi h, e) refl

pub any_next : (p : ℕ → Bool) (i hi : ℕ) → i < hi → p i ≡ false → list_any p (upward i hi) ≡ list_any p (upward (i + 1) hi)
any_next p i hi h e = rw (upward_next i hi h, e) refl

pub any_done : (p : ℕ → Bool) (i hi : ℕ) → hi ≤ i → list_any p (upward i hi) ≡ false
any_done p i hi h = rw (upward_done i hi h) refl

pub ruleset any_upward = (any_here, any_next, any_done)

-- two columns on one path, in either order
pub pair_on : (up : List ℕ) (c d : ℕ) → c ≤ d → IsOn up d c → IsOn up (max c d) (min c d)
pair_on up c d h on =
    let e : max c d ≡ d = omega arith in
    let f : min c d ≡ c = omega arith in
    rw (e, f) on

-- ---- a sweep that is what another is ends with it at a refusal
pub up_refused : {S E : Type 0} (step : ℕ → S → Result S E) (i hi : ℕ) (s : S) (e : E) (whole : Result S E) → i < hi → step i s ≡ Err e → sweep step (upward i hi) s ≡ whole → whole ≡ Err e
up_refused step i hi s e whole l r same = sym same ∙ sweep_refused step i hi s e l r

pub down_refused : {S E : Type 0} (step : ℕ → S → Result S E) (lo hi : ℕ) (s : S) (e : E) (whole : Result S E) → lo < hi → step (hi - 1) s ≡ Err e
    → sweep step (downward lo hi) s ≡ whole → whole ≡ Err e
down_refused step lo hi s e whole l r same =
    let h : hi ≡ hi - 1 + 1 = omega arith in
    sym same ∙ ap (λ k. sweep step (downward lo k) s) h ∙ sweep_down_refused step lo (hi - 1) s e (omega arith) r

-- ---- the columns upward
listed_are : (xs : List ℕ) (n lo : ℕ) (g : ℕ → ℕ) → length xs ≡ n → ((k : ℕ) → k < n → slice_get xs k ≡ Some (g (lo + k))) → xs ≡ map g (counting_up lo n)
listed_are [] zero lo g e h = refl
listed_are [] (suc n) lo g e h = absurd (omega arith)
listed_are (x ∷ xs) zero lo g e h = absurd (omega arith)
listed_are (x ∷ xs) (suc n) lo g e h =
    let first : Some x ≡ Some (g (lo + 0)) = h 0 (omega arith) in
    let start : lo + 0 ≡ lo = omega arith in
    let head : x ≡ g lo = cc in
    let rest : xs ≡ map g (counting_up (lo + 1) n) =
    listed_are xs n (lo + 1) g (omega arith) (λ k l. h (suc k) (omega arith) ∙ ap (λ (m : ℕ). Some (g m)) (let same : lo + suc k ≡ lo + 1 + k = omega arith in same)) in
    cc

pub ups_same : (tree : Tree) (up : List ℕ) → AreUps tree.bodies up → up ≡ ups_of tree
unfolding upward
ups_same tree up are =
    let n = column_count tree.bodies in
    let e : n + 1 - 1 ≡ n = omega arith in
    listed_are up n 1 (up_of tree.bodies) are.count (λ k l. are.at k l ∙ ap (λ (m : ℕ). Some (up_of tree.bodies m)) (let same : k + 1 ≡ 1 + k = omega arith in same))
    ∙ ap (λ (m : ℕ). map (up_of tree.bodies) (counting_up 1 m)) (sym e)

pub length_ups : (tree : Tree) → length (ups_of tree) ≡ column_count tree.bodies
length_ups tree = omega (arith, length-map (upward 1 (column_count tree.bodies + 1)) (up_of tree.bodies), length-upward 1 (column_count tree.bodies + 1))

listed_at : (g : ℕ → ℕ) (lo n k : ℕ) → k < n → slice_get (map g (counting_up lo n)) k ≡ Some (g (lo + k))
listed_at g lo zero k within = absurd (omega arith)
listed_at g lo (suc n) zero within = let e : lo ≡ lo + 0 = omega arith in ap (λ (m : ℕ). Some (g m)) e
listed_at g lo (suc n) (suc k) within = let e : lo + 1 + k ≡ lo + suc k = omega arith in listed_at g (lo + 1) n k (omega arith) ∙ ap (λ (m : ℕ). Some (g m)) e

pub ups_are : (tree : Tree) (up : List ℕ) → up ≡ ups_of tree → AreUps tree.bodies up
unfolding upward
ups_are tree up is = record {
  count = ap length is ∙ length_ups tree;
  at = λ k within.
      let e : 1 + k ≡ k + 1 = omega arith in
      ap (λ (us : List ℕ). slice_get us k) is ∙ listed_at (up_of tree.bodies) 1 (column_count tree.bodies + 1 - 1) k (omega arith) ∙ ap (λ (m : ℕ). Some (up_of tree.bodies m)) e;
}

-- the list tells the column upward
pub up_listed : (tree : Tree) (d : ℕ) → 1 ≤ d → d ≤ column_count tree.bodies → above (ups_of tree) d ≡ up_of tree.bodies d
up_listed tree zero low high = absurd (omega arith)
up_listed tree (suc k) low high =
    let n = column_count tree.bodies + 1 in
    let there : slice_index_or (upward 1 n) k 0 ≡ 1 + k = upward_at 1 n k 0 (omega (arith, high)) in
    get_or-map (up_of tree.bodies) (upward 1 n) k 0 0 (omega (arith, high, length-upward 1 n)) ∙ ap (up_of tree.bodies) (there ∙ omega arith)

pub ups_ascend : (tree : Tree) → AreBodies tree.bodies → Ascends (ups_of tree)
ups_ascend tree kept d low high =
    let long = length_ups tree in
    let up = up_listed tree d low (omega (arith, long, high)) in
    let below = up_below tree d (record { from = low; to = omega (arith, long, high) }) kept.parents in
    omega (arith, up, below)

-- a way on which a body's step is refused
pub way_refused : (bodies : List Body) (i k a : ℕ) (start : Force Interval) (w : View) (s : Way) (e : NumFault) → AreBodies bodies → 1 ≤ a → way_step bodies i k a s ≡ Err e
    → sweep (way_step bodies i k) (path (parents_of bodies) a) s ≡ sweep (way_step bodies i k) (path (parents_of bodies) i) (record { force = start; work = w })
    → way_from bodies i k w start ≡ Err e
way_refused bodies i k a start w s e kept low r same =
    let none : NumFault → Result View NumFault = λ d. Err d in
    ap (λ q. q >>= λ (t : Way). Ok t.work) (sym same ∙ body_path_refused bodies kept (way_step bodies i k) a s e low r)

-- ---- by steps upward
module _ (tree : Tree) (kept : AreBodies tree.bodies) where
  pub above_here : (i : ℕ) → above_by tree i 0 ≡ i
  above_here i = ancestor-here (shape_of tree) i

  pub above_next : (i n : ℕ) → above_by tree i (n + 1) ≡ parent_at tree.bodies (above_by tree i n)
  above_next i n =
      let e : n + 1 ≡ suc n = omega arith in
      ap (above_by tree i) e ∙ ancestor-next (shape_of tree) i n ∙ next (above_by tree i n)
    where
      next : (a : ℕ) → above_in (shape_of tree) a ≡ parent_at tree.bodies a
      next zero = refl
      next (suc a) = refl

  -- each step falls, or is done
  pub above_falls : (i n : ℕ) → 1 ≤ above_by tree i n → above_by tree i n + n ≤ i
  above_falls i zero h = let e = above_here i in omega (arith, e)
  above_falls i (suc n) h =
      let e : suc n ≡ n + 1 = omega arith in
      let next : above_by tree i (suc n) ≡ parent_at tree.bodies (above_by tree i n) = ap (above_by tree i) e ∙ above_next i n in
      elim (cases_lt 0 (above_by tree i n)) [
        | inl l ↦
            let r : above_by tree i n + n ≤ i = above_falls i n l in
            let p : parent_at tree.bodies (above_by tree i n) < above_by tree i n = kept.parents (above_by tree i n) l in
            omega (arith, next, r, p)
        | inr g ↦
            let z : above_by tree i n ≡ 0 = omega arith in
            let q : parent_at tree.bodies (above_by tree i n) ≡ 0 = ap (parent_at tree.bodies) z in
            absurd (omega (arith, next, q, h))
      ]

  pub above_top : (i n : ℕ) → i ≤ n → 1 ≤ i → above_by tree i n ≡ 0
  above_top i n h low =
      elim (cases_lt 0 (above_by tree i n)) [
        | inl l ↦ let r = above_falls i n l in absurd (omega (arith, r))
        | inr g ↦ omega arith
      ]

  path_here : (a : ℕ) → 1 ≤ a → path (parents_of tree.bodies) a ≡ a ∷ path (parents_of tree.bodies) (parent_at tree.bodies a)
  path_here a l = path_next (parents_of tree.bodies) (parents_ascend tree.bodies kept) a l ∙ ap (λ b. a ∷ path (parents_of tree.bodies) b) (above_is tree.bodies a)

  module _ {S E : Type 0} (step : ℕ → S → Result S E) (rest : (s : S) → step 0 s ≡ Ok s) (i : ℕ) (low : 1 ≤ i) where
    walk_from : (m n : ℕ) (s : S) → i ≤ n + m → sweep (λ j. step (above_by tree i j)) (counting_up n m) s ≡ sweep step (path (parents_of tree.bodies) (above_by tree i n)) s
    walk_from zero n s h = sym (body_path_done tree.bodies kept step (above_by tree i n) s (above_top i n (omega arith) low))
    walk_from (suc m) n s h =
        elim (cases_lt 0 (above_by tree i n)) [
          | inl l ↦
              then_same (step (above_by tree i n) s) _ _ (λ t. walk_from m (n + 1) t (omega arith) ∙ ap (λ a. sweep step (path (parents_of tree.bodies) a) t) (above_next i n))
              ∙ sym (ap (λ is. sweep step is s) (path_here (above_by tree i n) l))
          | inr g ↦
              let z : above_by tree i n ≡ 0 = omega arith in
              let y : above_by tree i (n + 1) ≡ 0 = above_next i n ∙ ap (parent_at tree.bodies) z in
              ap (λ (a : ℕ). step a s >>= λ t. sweep (λ j. step (above_by tree i j)) (counting_up (n + 1) m) t) z
              ∙ ap (λ r. r >>= λ t. sweep (λ j. step (above_by tree i j)) (counting_up (n + 1) m) t) (rest s)
              ∙ walk_from m (n + 1) s (omega arith)
              ∙ body_path_done tree.bodies kept step (above_by tree i (n + 1)) s y
              ∙ sym (body_path_done tree.bodies kept step (above_by tree i n) s z)
        ]

    -- a sweep over steps upward is one along the path
    pub walk : (s : S) → i ≤ length tree.bodies → sweep (λ j. step (above_by tree i j)) (upward 0 (length tree.bodies)) s ≡ sweep step (path (parents_of tree.bodies) i) s
    unfolding upward
    walk s h =
        walk_from (length tree.bodies - 0) 0 s (omega arith) ∙ ap (λ a. sweep step (path (parents_of tree.bodies) a) s) (above_here i)

  -- the world has no columns
  pub none_met : (i k : ℕ) → 1 ≤ i → met_columns tree.bodies i k 0 ≡ 0
  none_met i k low = let b : (0 == i) ≡ false = grind arith in ap (λ (t : Bool). if t then k + 1 else 0) b

  none_added : (w : View) (c d i k : ℕ) → 1 ≤ i → (s : Interval) → add_body tree.bodies w c d i k 0 s ≡ Ok s
  unfolding add_body
  none_added w c d i k low s =
      ap (λ n. sweep (add_pair tree.bodies w c d i k 0) (downward 0 n) s) (none_met i k low) ∙ sweep_down_done (add_pair tree.bodies w c d i k 0) 0 0 s (omega arith)

  pub column_added : (w : View) (c d i k : ℕ) (sum : Interval) → HasBody tree i → (column_of tree.bodies i k == c || column_of tree.bodies i k == d) ≡ true
      → sweep (add_body tree.bodies w c d i k) (path (parents_of tree.bodies) i) sum ≡ add_column tree w c d i k sum
  unfolding add_column
  column_added w c d i k sum has e =
      sym (walk (add_body tree.bodies w c d i k) (none_added w c d i k has.from) i has.from sum has.to)
      ∙ ap (λ (t : Bool). if t then sweep (λ n. add_body tree.bodies w c d i k (above_by tree i n)) (upward 0 (length tree.bodies)) sum else Ok sum) (sym e)

  pub column_passed : (w : View) (c d i k : ℕ) (sum : Interval) → (column_of tree.bodies i k == c || column_of tree.bodies i k == d) ≡ false → add_column tree w c d i k sum ≡ Ok sum
  unfolding add_column
  column_passed w c d i k sum e =
      ap (λ (t : Bool). if t then sweep (λ n. add_body tree.bodies w c d i k (above_by tree i n)) (upward 0 (length tree.bodies)) sum else Ok sum) e
