-- Steps one after the other: where a step leaves more than the work, the work alone is what a run over names leaves.
use Rattle.std.proofs.Common.{◌≡◌, ℕ, ◌+◌, ◌<◌, ◌≤◌, List, [], ◌∷◌, flat_map, Result, Ok, Err, inl, inr, refl, ap, sym, ◌∙◌, subst, arith}
use Rattle.rb_result.specs.Steps.{◌>>=◌, told_as}
use Rattle.rb_result.proofs.Results.{then-ok, same_ok}
use Rattle.rb_sweep.specs.Sweep.{sweep, Among}
use Rattle.rb_sweep.specs.Naming.{Naming, run}
use Rattle.rb_sweep.proofs.Climbing.{Climbs, run_append}
use Rattle.rb_sweep.proofs.NamingLaws.{Shape, IsOrdered}

pub then_same_where : {A B E : Type 0} (r : Result A E) (f g : A → Result B E) → ((x : A) → r ≡ Ok x → f x ≡ g x) → (r >>= f) ≡ (r >>= g)
then_same_where (Ok x) f g h = h x refl
then_same_where (Err e) f g h = refl

-- a sweep whose steps are runs in the states that it comes to
module _ {S E : Type 0} (p : Naming S E) (Fits : S → Type 0) (put_fits : (n : p.Name) (x : p.Value n) (s : S) → Fits s → Fits (p.put n x s)) where
  pub run_fits : (ns : List p.Name) (s t : S) → Fits s → run p ns s ≡ Ok t → Fits t
  run_fits [] s t f e = subst Fits (same_ok {E = E} s t e) f
  run_fits (n ∷ ns) s t f e =
      let h = then-ok (p.rule n s) (λ x. run p ns (p.put n x s)) t e in
      run_fits ns (p.put n h.0 s) t (put_fits n h.0 s f) h.2

  pub sweep_run : (at : ℕ → S → Result S E) (names : ℕ → List p.Name) (is : List ℕ) → ((i : ℕ) (s : S) → Among i is → Fits s → at i s ≡ run p (names i) s)
      → (s : S) → Fits s → sweep at is s ≡ run p (flat_map names is) s
  sweep_run at names [] h s f = refl
  sweep_run at names (i ∷ is) h s f =
      ap (λ r. (r >>= λ t. sweep at is t)) (h i s (inl refl) f)
      ∙ then_same_where (run p (names i) s) _ _ (λ t e. sweep_run at names is (λ j s k g. h j s (inr k) g) t (run_fits (names i) s t f e))
      ∙ sym (run_append p (names i) (flat_map names is) s)

-- a run over names that climb leaves all names of smaller rank
pub run_below : {S E : Type 0} (p : Naming S E) (v : Shape p) (o : IsOrdered p v) (ns : List p.Name) (a b : ℕ) (s t : S) → Climbs v.rank v.Known a ns b → v.Fits s → run p ns s ≡ Ok t
    → (m : p.Name) → v.Known m → v.rank m < a → p.look m s ≡ p.look m t
run_below {S} {E} p v o [] a b s t c f e m k l = ap (p.look m) (same_ok {E = E} s t e)
run_below {S} {E} p v o (n ∷ ns) a b s t c f e m k l =
    let h = then-ok (p.rule n s) (λ x. run p ns (p.put n x s)) t e in
    let high : a ≤ v.rank n = c.1 in
    sym (o.put_other m n h.0 s k c.0 f (omega arith)) ∙ run_below p v o ns (v.rank n + 1) b (p.put n h.0 s) t c.2 (o.put_fits n h.0 s f) h.2 m k (omega arith)

-- ---- a column gives way
module _ {A C N R V F G : Type 0} (f : F → G) (less : Result N F) (gives : A → C → N → Result R F) (left : A → C → N → V) where
  abbrev both : V → R → V × R
  both v r = (v, r)

  abbrev whole : A → C → Result V G
  whole U D = told_as f (less >>= λ u. gives U D u >>= λ r. Ok u) >>= λ u. Ok (left U D u)

  abbrev apart : A → C → Result (V × R) G
  apart U D = told_as f less >>= λ u. told_as f (gives U D u) >>= λ r. Ok (both (left U D u) r)

  last_step : (U : A) (D : C) (u : N) (g : Result R F) → (told_as f (g >>= λ r. Ok u) >>= λ u. Ok (left U D u)) ≡ ((told_as f g >>= λ r. Ok (both (left U D u) r)) >>= λ t. Ok t.0)
  last_step U D u (Ok r) = refl
  last_step U D u (Err e) = refl

  less_step : (U : A) (D : C) → whole U D ≡ (apart U D >>= λ t. Ok t.0)
  less_step U D = go less
    where
      go : (q : Result N F) → (told_as f (q >>= λ u. gives U D u >>= λ r. Ok u) >>= λ u. Ok (left U D u)) ≡ ((told_as f q >>= λ u. told_as f (gives U D u) >>= λ r. Ok (both (left U D u) r)) >>= λ t. Ok t.0)
      go (Ok u) = last_step U D u (gives U D u)
      go (Err e) = refl

  pub column_chain : {B : Type 0} (force : Result A G) (along : A → Result B G) (pivot : B → Result C G)
      → (force >>= λ U. ((along U >>= λ P. pivot P) >>= λ D. whole U D)) ≡ ((force >>= λ U. along U >>= λ P. pivot P >>= λ D. apart U D) >>= λ t. Ok t.0)
  column_chain {B} force along pivot = at_force force
    where
      at_pivot : (U : A) (q : Result C G) → (q >>= λ D. whole U D) ≡ ((q >>= λ D. apart U D) >>= λ t. Ok t.0)
      at_pivot U (Ok D) = less_step U D
      at_pivot U (Err e) = refl

      at_along : (U : A) (q : Result B G) → ((q >>= λ P. pivot P) >>= λ D. whole U D) ≡ ((q >>= λ P. pivot P >>= λ D. apart U D) >>= λ t. Ok t.0)
      at_along U (Ok P) = at_pivot U (pivot P)
      at_along U (Err e) = refl

      at_force : (q : Result A G) → (q >>= λ U. ((along U >>= λ P. pivot P) >>= λ D. whole U D)) ≡ ((q >>= λ U. along U >>= λ P. pivot P >>= λ D. apart U D) >>= λ t. Ok t.0)
      at_force (Ok U) = at_along U (along U)
      at_force (Err e) = refl

-- ---- three steps, and then the rest
module _ {A B C S T E : Type 0} (Y : A → Result B E) (Z : A → B → Result C E) (g : A → B → C → S) (F : S → Result T E) where
  abbrev ok : S → Result S E
  ok x = Ok x

  third : (a : A) (b : B) (q : Result C E) → ((q >>= λ c. ok (g a b c)) >>= F) ≡ (q >>= λ c. F (g a b c))
  third a b (Ok c) = refl
  third a b (Err e) = refl

  second : (a : A) (q : Result B E) → ((q >>= λ b. Z a b >>= λ c. ok (g a b c)) >>= F) ≡ (q >>= λ b. Z a b >>= λ c. F (g a b c))
  second a (Ok b) = third a b (Z a b)
  second a (Err e) = refl

  pub three_chain : (q : Result A E) → ((q >>= λ a. Y a >>= λ b. Z a b >>= λ c. ok (g a b c)) >>= F) ≡ (q >>= λ a. Y a >>= λ b. Z a b >>= λ c. F (g a b c))
  three_chain (Ok a) = second a (Y a)
  three_chain (Err e) = refl

-- ---- a column's acceleration
module _ {N X Y V F G : Type 0} (f : F → G) (less : Result N F) (over : N → Result X F) (gives : X → Result Y F) (left : X → V) where
  abbrev pair : V → Y → V × Y
  pair v y = (v, y)

  rate_last : (x : X) (q : Result Y F) → (told_as f (q >>= λ y. Ok x) >>= λ x. Ok (left x)) ≡ ((told_as f q >>= λ y. Ok (pair (left x) y)) >>= λ t. Ok t.0)
  rate_last x (Ok y) = refl
  rate_last x (Err e) = refl

  rate_over : (q : Result X F) → (told_as f (q >>= λ x. gives x >>= λ y. Ok x) >>= λ x. Ok (left x)) ≡ ((told_as f q >>= λ x. told_as f (gives x) >>= λ y. Ok (pair (left x) y)) >>= λ t. Ok t.0)
  rate_over (Ok x) = rate_last x (gives x)
  rate_over (Err e) = refl

  pub rate_chain : (told_as f (less >>= λ r. over r >>= λ x. gives x >>= λ y. Ok x) >>= λ x. Ok (left x))
      ≡ ((told_as f less >>= λ r. told_as f (over r) >>= λ x. told_as f (gives x) >>= λ y. Ok (pair (left x) y)) >>= λ t. Ok t.0)
  rate_chain = go less
    where
      go : (q : Result N F) → (told_as f (q >>= λ r. over r >>= λ x. gives x >>= λ y. Ok x) >>= λ x. Ok (left x))
          ≡ ((told_as f q >>= λ r. told_as f (over r) >>= λ x. told_as f (gives x) >>= λ y. Ok (pair (left x) y)) >>= λ t. Ok t.0)
      go (Ok r) = rate_over (over r)
      go (Err e) = refl
