-- Lists of names whose ranks ascend, body by body.
use Rattle.std.proofs.Common.{◌≡◌, ℕ, zero, suc, ◌+◌, ◌-◌, ◌<◌, ◌≤◌, List, [], ◌∷◌, ◌++◌, flat_map, filter, map, length, get_or, Bool, true, false, cond, Result, Ok, Err, inl, inr, refl, ap, sym, ◌∙◌, subst, arith}
use Rattle.std.proofs.lemmas.Bool.{cases_lt}
use Rattle.rb_result.specs.Steps.{◌>>=◌}
use Rattle.rb_result.proofs.Results.{grouped}
use Rattle.rb_sweep.specs.Sweep.{Among, sweep, counting_up, counting_down, upward, downward}
use Rattle.rb_sweep.specs.Naming.{Naming, run, Stands, Stand}

pub among_left : {N : Type 0} (n : N) (ms ns : List N) → Among n ms → Among n (ms ++ ns)
among_left n [] ns i = absurd i
among_left n (m ∷ ms) ns (inl e) = inl e
among_left n (m ∷ ms) ns (inr i) = inr (among_left n ms ns i)

pub among_right : {N : Type 0} (n : N) (ms ns : List N) → Among n ns → Among n (ms ++ ns)
among_right n [] ns i = i
among_right n (m ∷ ms) ns i = inr (among_right n ms ns i)

-- a name of one of these places is among the names of all
pub among_flat : {A N : Type 0} (names : A → List N) (n : N) (i : A) (is : List A) → Among i is → Among n (names i) → Among n (flat_map names is)
among_flat names n i [] h k = absurd h
among_flat names n i (j ∷ js) (inl e) k = among_left n (names j) (flat_map names js) (subst (λ j. Among n (names j)) e k)
among_flat names n i (j ∷ js) (inr h) k = among_right n (names j) (flat_map names js) (among_flat names n i js h k)

pub among_counting_up : (k lo i : ℕ) → lo ≤ i → i < lo + k → Among i (counting_up lo k)
among_counting_up zero lo i low high = absurd (omega arith)
among_counting_up (suc k) lo i low high = elim (cases_lt lo i) [ inl l ↦ inr (among_counting_up k (lo + 1) i (omega arith) (omega arith)) | inr g ↦ inl (omega arith) ]

pub among_counting_down : (k lo i : ℕ) → lo ≤ i → i < lo + k → Among i (counting_down lo k)
among_counting_down zero lo i low high = absurd (omega arith)
among_counting_down (suc k) lo i low high = elim (cases_lt i (lo + k)) [ inl l ↦ inr (among_counting_down k lo i low l) | inr g ↦ inl (omega arith) ]

-- the name of a body is among those of the bodies from lo on and below hi
pub among_upward : {N : Type 0} (names : ℕ → List N) (n : N) (i lo hi : ℕ) → lo ≤ i → i < hi → Among n (names i) → Among n (flat_map names (upward lo hi))
unfolding upward
among_upward names n i lo hi low high h = among_flat names n i (counting_up lo (hi - lo)) (among_counting_up (hi - lo) lo i low (omega arith)) h

pub among_downward : {N : Type 0} (names : ℕ → List N) (n : N) (i lo hi : ℕ) → lo ≤ i → i < hi → Among n (names i) → Among n (flat_map names (downward lo hi))
unfolding downward
among_downward names n i lo hi low high h = among_flat names n i (counting_down lo (hi - lo)) (among_counting_down (hi - lo) lo i low (omega arith)) h

module _ {N : Type 0} (rank : N → ℕ) (Known : N → Type 0) where
  -- these names are known, and their ranks ascend from a or more to below b
  abbrev pub Climbs : ℕ → List N → ℕ → Type 0
  Climbs a [] b = a ≤ b
  Climbs a (n ∷ ns) b = Known n × (a ≤ rank n) × Climbs (rank n + 1) ns b

  pub climbs_append : (ms ns : List N) (a b c : ℕ) → Climbs a ms b → Climbs b ns c → Climbs a (ms ++ ns) c
  climbs_append [] [] a b c h k = omega arith
  climbs_append [] (n ∷ ns) a b c h k = (k.0, omega arith, k.2)
  climbs_append (m ∷ ms) ns a b c h k = (h.0, h.1, climbs_append ms ns (rank m + 1) b c h.2 k)

  pub climbs_widen : (ns : List N) (a b c d : ℕ) → c ≤ a → b ≤ d → Climbs a ns b → Climbs c ns d
  climbs_widen [] a b c d l h k = omega arith
  climbs_widen (n ∷ ns) a b c d l h k = (k.0, let g : a ≤ rank n = k.1 in omega arith, climbs_widen ns (rank n + 1) b (rank n + 1) d (omega arith) h k.2)

  pub climbs_before : (ms : List N) (n : N) (ns : List N) (a b : ℕ) → Climbs a (ms ++ n ∷ ns) b → Climbs a ms (rank n)
  climbs_before [] n ns a b h = h.1
  climbs_before (m ∷ ms) n ns a b h = (h.0, h.1, climbs_before ms n ns (rank m + 1) b h.2)

  pub climbs_among : (ns : List N) (a b : ℕ) (m : N) → Climbs a ns b → Among m ns → a ≤ rank m
  climbs_among [] a b m h i = absurd i
  climbs_among (n ∷ ns) a b m h (inl e) = subst (λ k. a ≤ rank k) (sym e) h.1
  climbs_among (n ∷ ns) a b m h (inr i) =
      let l : rank n + 1 ≤ rank m = climbs_among ns (rank n + 1) b m h.2 i in
      let g : a ≤ rank n = h.1 in
      omega arith

  pub climbs_known : (ns : List N) (a b : ℕ) (m : N) → Climbs a ns b → Among m ns → Known m
  climbs_known [] a b m h i = absurd i
  climbs_known (n ∷ ns) a b m h (inl e) = subst (λ k. Known k) (sym e) h.0
  climbs_known (n ∷ ns) a b m h (inr i) = climbs_known ns (rank n + 1) b m h.2 i

  climbs_counting_up : (names : ℕ → List N) (edge : ℕ → ℕ) (k lo : ℕ) → ((i : ℕ) → lo ≤ i → i < lo + k → Climbs (edge i) (names i) (edge (i + 1)))
      → Climbs (edge lo) (flat_map names (counting_up lo k)) (edge (lo + k))
  climbs_counting_up names edge zero lo h = let e : edge (lo + 0) ≡ edge lo = ap edge (omega arith) in omega arith
  climbs_counting_up names edge (suc k) lo h =
      let e : lo + 1 + k ≡ lo + suc k = omega arith in
      climbs_append (names lo) (flat_map names (counting_up (lo + 1) k)) (edge lo) (edge (lo + 1)) (edge (lo + suc k)) (h lo (omega arith) (omega arith))
      (subst (λ m. Climbs (edge (lo + 1)) (flat_map names (counting_up (lo + 1) k)) (edge m)) e
      (climbs_counting_up names edge k (lo + 1) (λ i low high. h i (omega arith) (omega arith))))

  climbs_counting_down : (names : ℕ → List N) (edge : ℕ → ℕ) (k lo : ℕ) → ((i : ℕ) → lo ≤ i → i < lo + k → Climbs (edge (i + 1)) (names i) (edge i))
      → Climbs (edge (lo + k)) (flat_map names (counting_down lo k)) (edge lo)
  climbs_counting_down names edge zero lo h = let e : edge (lo + 0) ≡ edge lo = ap edge (omega arith) in omega arith
  climbs_counting_down names edge (suc k) lo h =
      let e : lo + k + 1 ≡ lo + suc k = omega arith in
      climbs_append (names (lo + k)) (flat_map names (counting_down lo k)) (edge (lo + suc k)) (edge (lo + k)) (edge lo)
      (subst (λ m. Climbs (edge m) (names (lo + k)) (edge (lo + k))) e (h (lo + k) (omega arith) (omega arith)))
      (climbs_counting_down names edge k lo (λ i low high. h i low (omega arith)))

  -- what ascends at each body from edge to edge ascends over the bodies from lo on and below hi
  pub climbs_upward : (names : ℕ → List N) (edge : ℕ → ℕ) (lo hi : ℕ) → lo ≤ hi → ((i : ℕ) → lo ≤ i → i < hi → Climbs (edge i) (names i) (edge (i + 1)))
      → Climbs (edge lo) (flat_map names (upward lo hi)) (edge hi)
  unfolding upward
  climbs_upward names edge lo hi le h =
      let e : lo + (hi - lo) ≡ hi = omega arith in
      subst (λ m. Climbs (edge lo) (flat_map names (counting_up lo (hi - lo))) (edge m)) e
      (climbs_counting_up names edge (hi - lo) lo (λ i low high. h i low (omega arith)))

  pub climbs_downward : (names : ℕ → List N) (edge : ℕ → ℕ) (lo hi : ℕ) → lo ≤ hi → ((i : ℕ) → lo ≤ i → i < hi → Climbs (edge (i + 1)) (names i) (edge i))
      → Climbs (edge hi) (flat_map names (downward lo hi)) (edge lo)
  unfolding downward
  climbs_downward names edge lo hi le h =
      let e : lo + (hi - lo) ≡ hi = omega arith in
      subst (λ m. Climbs (edge m) (flat_map names (counting_down lo (hi - lo))) (edge lo)) e
      (climbs_counting_down names edge (hi - lo) lo (λ i low high. h i low (omega arith)))

-- ---- a sweep whose step at a body is a run over the body's names
pub then_same : {A B E : Type 0} (r : Result A E) (f g : A → Result B E) → ((x : A) → f x ≡ g x) → (r >>= f) ≡ (r >>= g)
then_same (Ok x) f g h = h x
then_same (Err e) f g h = refl

module _ {S E : Type 0} (p : Naming S E) where
  pub run_append : (ms ns : List p.Name) (s : S) → run p (ms ++ ns) s ≡ ((run p ms s) >>= λ t. run p ns t)
  run_append [] ns s = refl
  run_append (m ∷ ms) ns s =
      then_same (p.rule m s) _ _ (λ x. run_append ms ns (p.put m x s))
      ∙ sym (grouped (p.rule m s) (λ x. run p ms (p.put m x s)) (λ t. run p ns t))

  pub run_flat : (at : ℕ → S → Result S E) (names : ℕ → List p.Name) (is : List ℕ)
      → ((i : ℕ) (s : S) → Among i is → at i s ≡ run p (names i) s) → (s : S) → sweep at is s ≡ run p (flat_map names is) s
  run_flat at names [] h s = refl
  run_flat at names (i ∷ is) h s =
      ap (λ r. (r >>= λ t. sweep at is t)) (h i s (inl refl))
      ∙ then_same (run p (names i) s) _ _ (λ t. run_flat at names is (λ j s k. h j s (inr k)) t)
      ∙ sym (run_append (names i) (flat_map names is) s)

pub counting_up_from : (k lo i : ℕ) → Among i (counting_up lo k) → lo ≤ i
counting_up_from zero lo i h = absurd h
counting_up_from (suc k) lo i (inl e) = omega arith
counting_up_from (suc k) lo i (inr h) = let l : lo + 1 ≤ i = counting_up_from k (lo + 1) i h in omega arith

pub counting_down_from : (k lo i : ℕ) → Among i (counting_down lo k) → lo ≤ i
counting_down_from zero lo i h = absurd h
counting_down_from (suc k) lo i (inl e) = omega arith
counting_down_from (suc k) lo i (inr h) = counting_down_from k lo i h

module _ {S E : Type 0} (p : Naming S E) where
  -- a sweep over the bodies is a run over their names
  pub run_upward : (at : ℕ → S → Result S E) (names : ℕ → List p.Name) (lo hi : ℕ)
      → ((i : ℕ) (s : S) → lo ≤ i → at i s ≡ run p (names i) s) → (s : S) → sweep at (upward lo hi) s ≡ run p (flat_map names (upward lo hi)) s
  unfolding upward
  run_upward at names lo hi h s = run_flat p at names (counting_up lo (hi - lo)) (λ i s k. h i s (counting_up_from (hi - lo) lo i k)) s

  pub run_downward : (at : ℕ → S → Result S E) (names : ℕ → List p.Name) (lo hi : ℕ)
      → ((i : ℕ) (s : S) → lo ≤ i → at i s ≡ run p (names i) s) → (s : S) → sweep at (downward lo hi) s ≡ run p (flat_map names (downward lo hi)) s
  unfolding downward
  run_downward at names lo hi h s = run_flat p at names (counting_down lo (hi - lo)) (λ i s k. h i s (counting_down_from (hi - lo) lo i k)) s

  -- what stands of a list of names stands of each
  pub stands_at : (w : S) (m : p.Name) (ns : List p.Name) → Stand p w ns → Among m ns → Stands p w m
  stands_at w m [] h i = absurd i
  stands_at w m (n ∷ ns) h (inl e) = subst (λ k. Stands p w k) (sym e) h.0
  stands_at w m (n ∷ ns) h (inr i) = stands_at w m ns h.1 i

  -- and back
  pub stand_each : (w : S) (ns : List p.Name) → ((m : p.Name) → Among m ns → Stands p w m) → Stand p w ns
  stand_each w [] h = tt
  stand_each w (n ∷ ns) h = (h n (inl refl), stand_each w ns (λ m i. h m (inr i)))

  -- names that stand are found as they are, where putting what a state holds leaves it
  pub run_standing : (ns : List p.Name) (w : S) → ((m : p.Name) → Among m ns → p.put m (p.look m w) w ≡ w) → Stand p w ns → run p ns w ≡ Ok w
  run_standing [] w held h = refl
  run_standing (n ∷ ns) w held h =
      ap (λ r. (r >>= λ x. run p ns (p.put n x w))) h.0 ∙ ap (run p ns) (held n (inl refl)) ∙ run_standing ns w (λ m i. held m (inr i)) h.1

module _ {S E : Type 0} (p : Naming S E) (at : ℕ → S → Result S E) (name : ℕ → p.Name) (Ahead : ℕ → S → Type 0)
    (h : (i : ℕ) (s : S) → Ahead i s → at i s ≡ run p (name i ∷ []) s) (next : (i : ℕ) (x : p.Value (name i)) (s : S) → Ahead i s → Ahead (i + 1) (p.put (name i) x s)) where
  in_place_along : (k lo : ℕ) (s : S) → Ahead lo s → sweep at (counting_up lo k) s ≡ run p (flat_map (λ i. name i ∷ []) (counting_up lo k)) s
  in_place_along zero lo s a = refl
  in_place_along (suc k) lo s a =
      let write : p.Value (name lo) → Result S E = λ x. Ok (p.put (name lo) x s) in
      ap (λ r. (r >>= λ t. sweep at (counting_up (lo + 1) k) t)) (h lo s a)
      ∙ grouped (p.rule (name lo) s) write (λ t. sweep at (counting_up (lo + 1) k) t)
      ∙ then_same (p.rule (name lo) s) _ _ (λ x. in_place_along k (lo + 1) (p.put (name lo) x s) (next lo x s a))

  -- the same where a step still finds at its place what stood there before the sweep
  pub run_in_place : (lo hi : ℕ) (s : S) → Ahead lo s → sweep at (upward lo hi) s ≡ run p (flat_map (λ i. name i ∷ []) (upward lo hi)) s
  unfolding upward
  run_in_place lo hi s a = in_place_along (hi - lo) lo s a

-- ---- inner sweeps: what their steps read is the same
pub counting_up_below : (k lo i : ℕ) → Among i (counting_up lo k) → i < lo + k
counting_up_below zero lo i h = absurd h
counting_up_below (suc k) lo i (inl e) = omega arith
counting_up_below (suc k) lo i (inr h) = let l : i < lo + 1 + k = counting_up_below k (lo + 1) i h in omega arith

pub counting_down_below : (k lo i : ℕ) → Among i (counting_down lo k) → i < lo + k
counting_down_below zero lo i h = absurd h
counting_down_below (suc k) lo i (inl e) = omega arith
counting_down_below (suc k) lo i (inr h) = let l : i < lo + k = counting_down_below k lo i h in omega arith

among_filter : (p : ℕ → Bool) (i : ℕ) (is : List ℕ) → Among i (filter p is) → Among i is
among_filter p i [] h = h
among_filter p i (j ∷ js) h =
    elim (p j) as (λ b. Among i (cond b (j ∷ filter p js) (filter p js)) → Among i (j ∷ js)) [
      | true ↦ λ h. elim h [ inl e ↦ inl e | inr k ↦ inr (among_filter p i js k) ]
      | false ↦ λ h. inr (among_filter p i js h)
    ] h

pub sweep_same : {N S E : Type 0} (step other : N → S → Result S E) (ns : List N) → ((n : N) (s : S) → Among n ns → step n s ≡ other n s)
    → (s : S) → sweep step ns s ≡ sweep other ns s
sweep_same step other [] h s = refl
sweep_same step other (n ∷ ns) h s =
    ap (λ r. (r >>= λ t. sweep step ns t)) (h n s (inl refl))
    ∙ then_same (other n s) _ _ (λ t. sweep_same step other ns (λ m s k. h m s (inr k)) t)

pub picked_same : {S E : Type 0} (step other : ℕ → S → Result S E) (p : ℕ → Bool) (lo hi : ℕ) → lo ≤ hi
    → ((j : ℕ) (s : S) → lo ≤ j → j < hi → step j s ≡ other j s) → (s : S)
    → sweep step (filter p (downward lo hi)) s ≡ sweep other (filter p (downward lo hi)) s
unfolding downward
picked_same step other p lo hi le h s =
    sweep_same step other (filter p (counting_down lo (hi - lo)))
    (λ j s k.
    let i = among_filter p j (counting_down lo (hi - lo)) k in
    let below : j < lo + (hi - lo) = counting_down_below (hi - lo) lo j i in
    h j s (counting_down_from (hi - lo) lo j i) (omega arith)) s

-- what is told of each number is the same
map_counting_same : {A : Type 0} (f g : ℕ → A) (k lo : ℕ) → ((i : ℕ) → lo ≤ i → i < lo + k → f i ≡ g i) → map f (counting_up lo k) ≡ map g (counting_up lo k)
map_counting_same f g zero lo h = refl
map_counting_same f g (suc k) lo h =
    let here : f lo ≡ g lo = h lo (omega arith) (omega arith) in
    let rest : map f (counting_up (lo + 1) k) ≡ map g (counting_up (lo + 1) k) =
    map_counting_same f g k (lo + 1) (λ i low high. h i (omega arith) (omega arith)) in
    cc

pub map_upward_same : {A : Type 0} (f g : ℕ → A) (lo hi : ℕ) → ((i : ℕ) → lo ≤ i → i < hi → f i ≡ g i) → map f (upward lo hi) ≡ map g (upward lo hi)
unfolding upward
map_upward_same f g lo hi h = map_counting_same f g (hi - lo) lo (λ i low high. h i low (omega arith))

-- ---- sweeps over numbers whose steps are the same there
pub upward_same : {S E : Type 0} (step other : ℕ → S → Result S E) (lo hi : ℕ) → ((j : ℕ) (s : S) → lo ≤ j → j < hi → step j s ≡ other j s)
    → (s : S) → sweep step (upward lo hi) s ≡ sweep other (upward lo hi) s
unfolding upward
upward_same step other lo hi h s =
    sweep_same step other (counting_up lo (hi - lo))
    (λ j s k.
    let from : lo ≤ j = counting_up_from (hi - lo) lo j k in
    let below : j < lo + (hi - lo) = counting_up_below (hi - lo) lo j k in
    h j s from (omega arith)) s

pub downward_same : {S E : Type 0} (step other : ℕ → S → Result S E) (lo hi : ℕ) → ((j : ℕ) (s : S) → lo ≤ j → j < hi → step j s ≡ other j s)
    → (s : S) → sweep step (downward lo hi) s ≡ sweep other (downward lo hi) s
unfolding downward
downward_same step other lo hi h s =
    sweep_same step other (counting_down lo (hi - lo))
    (λ j s k.
    let from : lo ≤ j = counting_down_from (hi - lo) lo j k in
    let below : j < lo + (hi - lo) = counting_down_below (hi - lo) lo j k in
    h j s from (omega arith)) s

length-counting_up : (k lo : ℕ) → length (counting_up lo k) ≡ k
length-counting_up zero lo = refl
length-counting_up (suc k) lo = ap suc (length-counting_up k (lo + 1))

pub length-upward : (lo hi : ℕ) → length (upward lo hi) ≡ hi - lo
unfolding upward
length-upward lo hi = length-counting_up (hi - lo) lo

counting_up_at : (k lo i d : ℕ) → i < k → get_or (counting_up lo k) i d ≡ lo + i
counting_up_at zero lo i d h = absurd (omega arith)
counting_up_at (suc k) lo zero d h = omega arith
counting_up_at (suc k) lo (suc i) d h = let e : get_or (counting_up (lo + 1) k) i d ≡ lo + 1 + i = counting_up_at k (lo + 1) i d (omega arith) in omega arith

pub upward_at : (lo hi i d : ℕ) → i < hi - lo → get_or (upward lo hi) i d ≡ lo + i
unfolding upward
upward_at lo hi i d h = counting_up_at (hi - lo) lo i d h
