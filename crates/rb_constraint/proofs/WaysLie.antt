-- The entries that a force leaves on its way to the root lie in those of a way.
use Rattle.std.proofs.Common.{◌≡◌, ℕ, zero, suc, ◌+◌, ◌-◌, ◌<◌, ◌≤◌, ◌==◌, Bool, true, false, if◌then◌else◌, List, length, replicate, slice_index_or, slice_set, Ok, ◌⊎◌, inl, inr, refl, sym, ap, ◌∙◌, subst, arith}
use Rattle.std.proofs.lemmas.List.{length-replicate, length-set, get_or-set_same, get_or-set_other}
use Rattle.rb_result.proofs.Results.{same_ok, then-ok}
use Rattle.rb_sweep.specs.Sweep.{sweep, counting_up, upward}
use Rattle.rb_frac.specs.Frac.{Frac, fracs}
use Rattle.rb_frac.specs.Spatial.{Force, Spatials, Motions}
use Rattle.rb_frac.proofs.Reduce.{same_sym}
use Rattle.rb_num.specs.declared.interval.NumFault.{NumFault}
use Rattle.rb_num.specs.Interval.{Interval, zero_interval}
use Rattle.rb_num.specs.Fraction.{LiesIn}
use Rattle.rb_num.specs.Arith.{intervals, fractions}
use Rattle.rb_num.proofs.Same.{lies_in_same}
use Rattle.rb_num.proofs.Bridges.{to_intervals, ok_met}
use Rattle.rb_spatial.specs.Motions.{apply_dual, power}
use Rattle.rb_spatial.proofs.Keep.{apply_dual_met, power_met}
use Rattle.rb_flat.specs.Shape as Flat
use Rattle.rb_flat.specs.Mechanism.{Mechanism}
use Rattle.rb_joint.specs.Any.{any_column}
use Rattle.rb_joint.specs.Columns.{joint_power}
use Rattle.rb_composite.specs.Composite.{above, ancestor, IsOnPath, HasJointColumn, carried}
use Rattle.rb_composite.proofs.Paths.{equal_is, ancestor-here, ancestor-next, path_body, meets}
use Rattle.rb_jacobian.specs.Jacobian.{AreEntries}
use Rattle.rb_work.specs.Path.{path}
use Rattle.rb_work.specs.View.{View, X_at}
use Rattle.rb_work.proofs.PathLaws.{path_next, path_done}
use Rattle.rb_tree.specs.declared.robot.Body.{Body}
use Rattle.rb_tree.specs.declared.sizes.TheConstants.{MAX_COLUMNS}
use Rattle.rb_tree.specs.Columns.{parent_at, full_at, first_full}
use Rattle.rb_tree.specs.Numbers.{joint_at}
use Rattle.rb_tree.specs.Robot.{Tree, HasBody, AreBodies}
use Rattle.rb_tree.specs.Shape.{shape_of}
use Rattle.rb_tree.proofs.ColumnsFit.{parents_first}
use Rattle.rb_constraint.specs.declared.ways.Way.{Way}
use Rattle.rb_constraint.specs.Rows.{parents_of, leave, start_of, entry_at_column, entries_at_body, at_body, way_from, entry_of}
use Rattle.rb_constraint.specs.Encloses.{PlacesLie}
use Rattle.rb_constraint.proofs.Upward.{above_is, parents_ascend}
use Rattle.rb_constraint.proofs.Slots.{count_same, below_count, one_place, places_end}

-- ---- at one body
-- what so many columns of body a from one on leave
pub record Left (bodies : List Body) (a lo n : ℕ) (s t : Way) : Type 0 where
  pub force : t.force ≡ s.force
  pub long : length t.entries ≡ length s.entries
  pub here : (l : ℕ) → lo ≤ l → l < lo + n → joint_power (joint_at bodies a) l s.force ≡ Ok (entry_of t (first_full bodies a + l))
  pub others : (f : ℕ) → ((l : ℕ) → lo ≤ l → l < lo + n → f ≡ first_full bodies a + l → ⊥) → entry_of t f ≡ entry_of s f

module _ (bodies : List Body) (a : ℕ) where
  abbrev put : ℕ → Interval → Way → Way
  put l x s = record s { entries = slice_set s.entries (first_full bodies a + l) x }

  left_more : (lo n : ℕ) (s t : Way) (x : Interval) → first_full bodies a + lo < length s.entries → joint_power (joint_at bodies a) lo s.force ≡ Ok x
      → Left bodies a (lo + 1) n (put lo x s) t → Left bodies a lo (suc n) s t
  left_more lo n s t x room e h = record {
    force = h.force;
    long = h.long ∙ length-set s.entries (first_full bodies a + lo) x;
    here = λ l low high. here l low high (l == lo) refl;
    others = λ f apart.
        h.others f (λ l low high is. apart l (omega arith) (omega arith) is)
        ∙ get_or-set_other s.entries (first_full bodies a + lo) f x zero_interval (λ is. apart lo (omega arith) (omega arith) is);
  }
    where
      first : entry_of t (first_full bodies a + lo) ≡ x
      first =
          h.others (first_full bodies a + lo) (λ l low high is. absurd (omega arith))
          ∙ get_or-set_same s.entries (first_full bodies a + lo) x zero_interval room

      here : (l : ℕ) → lo ≤ l → l < lo + suc n → (b : Bool) → (l == lo) ≡ b → joint_power (joint_at bodies a) l s.force ≡ Ok (entry_of t (first_full bodies a + l))
      here l low high true is =
          let same : l ≡ lo = equal_is l lo is in
          subst (λ (k : ℕ). joint_power (joint_at bodies a) k s.force ≡ Ok (entry_of t (first_full bodies a + k))) (sym same) (e ∙ ap Ok (sym first))
      here l low high false is = let more : lo + 1 ≤ l = grind arith in h.here l more (omega arith)

  left : (n lo : ℕ) (s t : Way) → first_full bodies a + lo + n ≤ length s.entries → sweep (entry_at_column bodies a) (counting_up lo n) s ≡ Ok t → Left bodies a lo n s t
  unfolding entry_at_column
  left zero lo s t room e =
      let same : s ≡ t = same_ok {E = NumFault} _ _ e in
      record {
        force = ap (λ (u : Way). u.force) (sym same);
        long = ap (λ (u : Way). length u.entries) (sym same);
        here = λ l low high. absurd (omega arith);
        others = λ f apart. ap (λ (u : Way). entry_of u f) (sym same);
      }
  left (suc n) lo s t room e =
      let one = then-ok (entry_at_column bodies a lo s) _ _ e in
      let found = then-ok (joint_power (joint_at bodies a) lo s.force) _ _ one.1 in
      let is : put lo found.0 s ≡ one.0 = same_ok {E = NumFault} _ _ found.2 in
      let long = length-set s.entries (first_full bodies a + lo) found.0 in
      left_more lo n s t found.0 (omega (arith, room)) found.1
      (left n (lo + 1) (put lo found.0 s) t (omega (arith, room, long)) (ap (λ (u : Way). sweep (entry_at_column bodies a) (counting_up (lo + 1) n) u) is ∙ one.2))

  pub left_here : (s t : Way) → first_full bodies a + full_at bodies a ≤ length s.entries → entries_at_body bodies a s ≡ Ok t → Left bodies a 0 (full_at bodies a) s t
  unfolding upward
  left_here s t room e =
      let all : full_at bodies a - 0 ≡ full_at bodies a = omega arith in
      left (full_at bodies a) 0 s t (omega (arith, room)) (ap (λ (n : ℕ). sweep (entry_at_column bodies a) (counting_up 0 n) s) (sym all) ∙ e)

-- ---- along the path
nothing_set : (n f : ℕ) → slice_index_or (replicate n zero_interval) f zero_interval ≡ zero_interval
nothing_set zero f = refl
nothing_set (suc n) zero = refl
nothing_set (suc n) (suc f) = nothing_set n f

positive : (n : ℕ) → 1 ≤ n → (n == 0) ≡ false
positive n h = grind arith

-- the body above one
above_at : (tree : Tree) (a : ℕ) → above (shape_of tree) a ≡ parent_at tree.bodies a
above_at tree zero = refl
above_at tree (suc a) = refl

module _ (tree : Tree) (kept : AreBodies tree.bodies) (m : Mechanism Frac) (w : View) (places : PlacesLie tree m w)
    (columns : (i k : ℕ) → HasJointColumn (shape_of tree) i k → Motions LiesIn (m.column i k) (any_column (joint_at tree.bodies i) k))
    (b : ℕ) (low : b ≤ length tree.bodies) (f : Force Frac) (entry : ℕ → ℕ → Frac) (are : AreEntries (shape_of tree) m b f entry) where
  abbrev place : ℕ → ℕ → ℕ
  place i l = first_full tree.bodies i + l

  abbrev up : ℕ → ℕ
  up n = ancestor (shape_of tree) b n

  parents : Flat.ParentsComeFirst (shape_of tree)
  parents = parents_first tree kept

  -- so many steps above body b: the entries of the bodies so far lie, and so does the force
  record OnWay (n : ℕ) (s : Way) : Type 0 where
    pub long : length s.entries ≡ MAX_COLUMNS + 7
    pub force : 1 ≤ up n → Spatials LiesIn (carried (shape_of tree) m b f n) s.force
    pub entries : (i l : ℕ) → HasJointColumn (shape_of tree) i l → ((t : ℕ) × (n ≤ t) × (up t ≡ i)) ⊎ LiesIn (entry i l) (entry_of s (place i l))

  begin : (F : Force Interval) → Spatials LiesIn f F → OnWay 0 (start_of F)
  unfolding carried
  begin F lies = record {
    long = length-replicate (MAX_COLUMNS + 7) zero_interval;
    force = λ some. lies;
    entries = λ i l has. at i l has (meets (shape_of tree) parents b i low has.there.from);
  }
    where
      at : (i l : ℕ) → HasJointColumn (shape_of tree) i l → IsOnPath (shape_of tree) b i ⊎ (IsOnPath (shape_of tree) b i → ⊥)
          → ((t : ℕ) × (0 ≤ t) × (up t ≡ i)) ⊎ LiesIn (entry i l) (entry_of (start_of F) (place i l))
      at i l has (inl p) = inl (p.0, omega arith, p.1)
      at i l has (inr d) =
          inr (subst (λ (v : Interval). LiesIn (entry i l) v) (sym (nothing_set (MAX_COLUMNS + 7) (place i l)))
          (lies_in_same fracs.nul (entry i l) zero_interval (same_sym (entry i l) fracs.nul (are.off i l has d)) to_intervals.zero))

  module _ (n : ℕ) (some : 1 ≤ up n) (s t : Way) (on : OnWay n s) (step : at_body tree.bodies w (up n) s ≡ Ok t) where
    body : Flat.HasBody (shape_of tree) (up n)
    body = path_body (shape_of tree) parents b n low some

    has_body : HasBody tree (up n)
    has_body = record { from = body.from; to = body.to }

    -- the entries here, and the force that goes on
    record Passed (u : Way) : Type 0 where
      pub here : Left tree.bodies (up n) 0 (full_at tree.bodies (up n)) s u
      pub goes : leave tree.bodies w (up n) u.force ≡ Ok t.force
      pub entries : t.entries ≡ u.entries

    passed : (u : Way) × Passed u
    unfolding at_body
    passed =
        let first = then-ok (entries_at_body tree.bodies (up n) s) _ _ step in
        let u = first.0 in
        let next = then-ok (leave tree.bodies w (up n) u.force) _ _ first.2 in
        let is : record u { force = next.0 } ≡ t = same_ok {E = NumFault} _ _ next.2 in
        let long = on.long in
        let ends = places_end tree kept (up n) has_body in (
          u,
          record {
            here = left_here tree.bodies (up n) s u (omega (arith, long, ends)) first.1;
            goes = next.1 ∙ ap Ok (ap (λ (v : Way). v.force) is);
            entries = ap (λ (v : Way). v.entries) (sym is);
          },
        )

    seen : (i l : ℕ) → entry_of t (place i l) ≡ entry_of passed.0 (place i l)
    seen i l = ap (λ (xs : List Interval). slice_index_or xs (place i l) zero_interval) passed.1.entries

    -- those of this body
    own : (l : ℕ) → HasJointColumn (shape_of tree) (up n) l → LiesIn (entry (up n) l) (entry_of t (place (up n) l))
    own l has =
        let below = below_count tree (up n) l has in
        let motion = columns (up n) l has in
        let x = power fractions (m.column (up n) l) (carried (shape_of tree) m b f n) in
        subst (λ (v : Interval). LiesIn (entry (up n) l) v) (sym (seen (up n) l))
        (lies_in_same x (entry (up n) l) (entry_of passed.0 (place (up n) l)) (same_sym (entry (up n) l) x (are.along n l has))
        (ok_met (passed.1.here.here l (omega arith) (omega (arith, below))) (power_met to_intervals motion (on.force some))))

    -- those of others stay
    other : (i l : ℕ) → HasJointColumn (shape_of tree) i l → (i ≡ up n → ⊥) → entry_of t (place i l) ≡ entry_of s (place i l)
    other i l has differ =
        seen i l
        ∙ passed.1.here.others (place i l)
        (λ k from to is.
        differ (one_place tree i (up n) l k has (record { there = body; below = (let e = count_same tree.bodies (up n) in omega (arith, e, to)) }) is))

    on_next : OnWay (suc n) t
    unfolding carried leave
    on_next = record {
      long = ap length passed.1.entries ∙ passed.1.here.long ∙ on.long;
      force = force;
      entries = λ i l has. at i l has (i == up n) refl;
    }
      where
        at : (i l : ℕ) → HasJointColumn (shape_of tree) i l → (e : Bool) → (i == up n) ≡ e → ((t : ℕ) × (suc n ≤ t) × (up t ≡ i)) ⊎ LiesIn (entry i l) (entry_of t (place i l))
        at i l has true e =
            let same : i ≡ up n = equal_is i (up n) e in
            inr (subst (λ (j : ℕ). LiesIn (entry j l) (entry_of t (place j l))) (sym same) (own l (subst (λ (j : ℕ). HasJointColumn (shape_of tree) j l) same has)))
        at i l has false e = stay (on.entries i l has)
          where
            apart : i ≡ up n → ⊥
            apart same = grind arith

            stay : ((t : ℕ) × (n ≤ t) × (up t ≡ i)) ⊎ LiesIn (entry i l) (entry_of s (place i l)) → ((t : ℕ) × (suc n ≤ t) × (up t ≡ i)) ⊎ LiesIn (entry i l) (entry_of t (place i l))
            stay (inl p) = inl (p.0, later p.0 p.1 p.2 (p.0 == n) refl, p.2)
              where
                later : (k : ℕ) → n ≤ k → up k ≡ i → (z : Bool) → (k == n) ≡ z → suc n ≤ k
                later k from is true z = absurd (apart (sym is ∙ ap up (equal_is k n z)))
                later k from is false z = grind arith
            stay (inr lies) = inr (subst (λ (v : Interval). LiesIn (entry i l) v) (sym (other i l has apart)) lies)

        force : 1 ≤ up (suc n) → Spatials LiesIn (carried (shape_of tree) m b f (suc n)) t.force
        force more =
            let is : up (suc n) ≡ parent_at tree.bodies (up n) = ancestor-next (shape_of tree) b n ∙ above_at tree (up n) in
            let under : (parent_at tree.bodies (up n) == 0) ≡ false = positive (parent_at tree.bodies (up n)) (omega (arith, is, more)) in
            let goes : apply_dual intervals (X_at w (up n)) passed.0.force ≡ Ok t.force =
            sym (ap (λ (z : Bool). if z then Ok passed.0.force else apply_dual intervals (X_at w (up n)) passed.0.force) under) ∙ passed.1.goes in
            ok_met goes
            (apply_dual_met to_intervals (places (up n) has_body)
            (subst (λ (g : Force Interval). Spatials LiesIn (carried (shape_of tree) m b f n) g) (sym passed.1.here.force) (on.force some)))

  -- at the world all entries lie
  stays_world : (n d : ℕ) → up n ≡ 0 → up (n + d) ≡ 0
  stays_world n zero e = let same : n + 0 ≡ n = omega arith in ap up same ∙ e
  stays_world n (suc d) e =
      let same : n + suc d ≡ suc (n + d) = omega arith in
      ap up same ∙ ancestor-next (shape_of tree) b (n + d) ∙ ap (above (shape_of tree)) (stays_world n d e)

  done : (n : ℕ) (s : Way) → up n ≡ 0 → OnWay n s → (i l : ℕ) → HasJointColumn (shape_of tree) i l → LiesIn (entry i l) (entry_of s (place i l))
  done n s e on i l has = go (on.entries i l has)
    where
      go : ((t : ℕ) × (n ≤ t) × (up t ≡ i)) ⊎ LiesIn (entry i l) (entry_of s (place i l)) → LiesIn (entry i l) (entry_of s (place i l))
      go (inl p) =
          let later : n ≤ p.0 = p.1 in
          let steps : n + (p.0 - n) ≡ p.0 = omega (arith, later) in
          let world : up p.0 ≡ 0 = ap up (sym steps) ∙ stays_world n (p.0 - n) e in
          let is = p.2 in
          let from = has.there.from in
          absurd (omega (arith, world, is, from))
      go (inr lies) = lies

  walk : (fuel n a : ℕ) (s t : Way) → a < fuel → up n ≡ a → OnWay n s → sweep (at_body tree.bodies w) (path (parents_of tree.bodies) a) s ≡ Ok t
      → (i l : ℕ) → HasJointColumn (shape_of tree) i l → LiesIn (entry i l) (entry_of t (place i l))
  walk zero n a s t less is on e i l has = absurd (omega arith)
  walk (suc fuel) n zero s t less is on e i l has =
      let same : s ≡ t = same_ok {E = NumFault} _ _ (sym (ap (λ (xs : List ℕ). sweep (at_body tree.bodies w) xs s) (path_done (parents_of tree.bodies))) ∙ e) in
      subst (λ (u : Way). LiesIn (entry i l) (entry_of u (place i l))) same (done n s is on i l has)
  walk (suc fuel) n (suc a) s t less is on e i l has =
      let split = path_next (parents_of tree.bodies) (parents_ascend tree.bodies kept) (suc a) (omega arith) in
      let first = then-ok (at_body tree.bodies w (suc a) s) _ _ (sym (ap (λ (xs : List ℕ). sweep (at_body tree.bodies w) xs s) split) ∙ e) in
      let up_is : up (suc n) ≡ parent_at tree.bodies (suc a) = ancestor-next (shape_of tree) b n ∙ ap (above (shape_of tree)) is ∙ above_at tree (suc a) in
      let falls : parent_at tree.bodies (suc a) < suc a = kept.parents (suc a) (omega arith) in
      walk fuel (suc n) (parent_at tree.bodies (suc a)) first.0 t (omega (arith, falls, less)) up_is
      (on_next n (omega (arith, is)) s first.0 on (ap (λ (c : ℕ). at_body tree.bodies w c s) is ∙ first.1))
      (ap (λ (c : ℕ). sweep (at_body tree.bodies w) (path (parents_of tree.bodies) c) first.0) (sym (above_is tree.bodies (suc a))) ∙ first.2) i l has

  pub entries_lie : (F : Force Interval) (t : Way) → Spatials LiesIn f F → way_from tree.bodies w b F ≡ Ok t
      → (i l : ℕ) → HasJointColumn (shape_of tree) i l → LiesIn (entry i l) (entry_of t (place i l))
  unfolding way_from
  entries_lie F t lies e i l has = walk (suc b) 0 b (start_of F) t (omega arith) (ancestor-here (shape_of tree) b) (begin F lies) e i l has
