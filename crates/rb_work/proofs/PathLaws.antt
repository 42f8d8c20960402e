-- What holds of columns and their ancestors, and that each pair has a place of its own in the packed table.
use Rattle.std.proofs.Common.{◌≡◌, ◌≢◌, ◌⊎◌, inl, inr, ℕ, zero, suc, ◌+◌, ◌-◌, ◌*◌, ◌<◌, ◌≤◌, max, min, ◌==◌, ◌||◌, not, Bool, true, false, IsTrue, ◌↔◌, List, [], ◌∷◌, ◌++◌, length, length-append, slice_index_or, refl, ap, sym, ◌∙◌, subst, arith}
use Rattle.std.specs.List.{list_any}
use Rattle.std.proofs.lemmas.Bool.{cases_lt}
use Rattle.std.proofs.lemmas.Bool.Decides.{nat_tests}
use Rattle.std.proofs.lemmas.List.{get_or_past, get_or_default, get_or_append_left}
use Rattle.std.proofs.Math.Seq.{get_or-append_seam}
use Rattle.rb_sweep.specs.Sweep.{Among}
use Rattle.rb_work.specs.Path.{above, Ascends, path_within, path, IsOn, is_on, depth, AreUpTo, AreDepths, AreEnds, packed_end, packed_length, packed_place}

among_along : {N : Type 0} (n : N) (ms ns : List N) → ms ≡ ns → Among n ms → Among n ns
among_along n ms ns e h = subst (λ ks. Among n ks) e h

same_number : (c d : ℕ) → (c == d) ≡ true → d ≡ c
same_number c d h = grind (arith, nat_tests)

not_same : (c d : ℕ) → c ≢ d → (c == d) ≡ false
not_same c d h = grind (arith, nat_tests)

is_same : (c d : ℕ) → c ≡ d → (c == d) ≡ true
is_same c d h = grind (arith, nat_tests)

any_among : (d : ℕ) (ms : List ℕ) → Among d ms → list_any (λ e. e == d) ms ≡ true
any_among d [] h = absurd h
any_among d (m ∷ ms) (inl e) = rw (is_same m d (sym e)) refl
any_among d (m ∷ ms) (inr i) = elim (m == d) as (λ b. (b || list_any (λ e. e == d) ms) ≡ true) [ true ↦ refl | false ↦ any_among d ms i ]

among_any : (d : ℕ) (ms : List ℕ) → list_any (λ e. e == d) ms ≡ true → Among d ms
among_any d [] h = absurd cc
among_any d (m ∷ ms) h =
    let cases : (b : Bool) → (m == d) ≡ b → (b || list_any (λ e. e == d) ms) ≡ true → Among d (m ∷ ms) = λ b.
    elim b as (λ b. (m == d) ≡ b → (b || list_any (λ e. e == d) ms) ≡ true → Among d (m ∷ ms)) [
      | true ↦ λ e k. inl (same_number m d e)
      | false ↦ λ e k. inr (among_any d ms k)
    ] in
    cases (m == d) refl h

none_any : (d : ℕ) (ms : List ℕ) → (Among d ms → ⊥) → list_any (λ e. e == d) ms ≡ false
none_any d ms h = go (list_any (λ e. e == d) ms) refl
  where
    go : (b : Bool) → list_any (λ e. e == d) ms ≡ b → b ≡ false
    go true e = absurd (h (among_any d ms e))
    go false e = refl

-- a column that passes the test is on the path
pub on_from_test : (up : List ℕ) (c d : ℕ) → is_on up c d ≡ true → IsOn up c d
on_from_test up c d h = among_any d (path up c) h

pub is_on_test : (up : List ℕ) (b : Bool) (c d : ℕ) → b ≡ is_on up c d → IsTrue b ↔ IsOn up c d
is_on_test up b c d e = (λ h. on_from_test up c d (sym e ∙ h), λ h. e ∙ any_among d (path up c) h)

-- what `Ascends` says at a place
pub ascends_at : (up : List ℕ) → Ascends up → (k : ℕ) → k < length up → slice_index_or up k 0 ≤ k
ascends_at up h k l = let b : above up (suc k) < suc k = h (suc k) (omega arith) (omega arith) in omega arith

-- what stands at the place of a column
pub above_listed : (up : List ℕ) (c b : ℕ) → 1 ≤ c → c ≤ length up → b ≡ slice_index_or up (c - 1) b → b ≡ above up c
above_listed up zero b l h e = absurd (omega arith)
above_listed up (suc k) b l h e =
    let f : suc k - 1 ≡ k = omega arith in
    let g : b ≡ slice_index_or up k b = e ∙ ap (λ i. slice_index_or up i b) f in
    g ∙ get_or_default up k b 0 (omega arith)

-- the world has no path
pub path_done : (up : List ℕ) → path up 0 ≡ []
unfolding path path_within
path_done up = refl

module _ (up : List ℕ) (ascends : Ascends up) where
  above_less : (k : ℕ) → above up (suc k) ≤ k
  above_less k =
      elim (cases_lt k (length up)) [
        | inl l ↦ let h : above up (suc k) < suc k = ascends (suc k) (omega arith) (omega arith) in omega arith
        | inr g ↦ let h : slice_index_or up k 0 ≡ 0 = get_or_past up k 0 g in omega arith
      ]

  -- more steps change nothing
  path_enough : (steps more c : ℕ) → c ≤ steps → c ≤ more → path_within steps up c ≡ path_within more up c
  unfolding path_within
  path_enough steps more zero h k = refl
  path_enough zero more (suc c) h k = absurd (omega arith)
  path_enough (suc steps) zero (suc c) h k = absurd (omega arith)
  path_enough (suc steps) (suc more) (suc c) h k =
      let l : above up (suc c) ≤ c = above_less c in
      ap (λ ks. suc c ∷ ks) (path_enough steps more (above up (suc c)) (omega arith) (omega arith))

  pub path-suc : (k : ℕ) → path up (suc k) ≡ suc k ∷ path up (above up (suc k))
  unfolding path path_within
  path-suc k = ap (λ ks. suc k ∷ ks) (path_enough k (above up (suc k)) (above up (suc k)) (above_less k) (omega arith))

  -- a column's path: itself, and the path of the one above it
  pub path_next : (c : ℕ) → 1 ≤ c → path up c ≡ c ∷ path up (above up c)
  path_next zero h = absurd (omega arith)
  path_next (suc k) h = path-suc k

  pub on_self : (c : ℕ) → 1 ≤ c → IsOn up c c
  on_self c h = among_along c (c ∷ path up (above up c)) (path up c) (sym (path_next c h)) (inl refl)

  pub on_above : (c d : ℕ) → 1 ≤ c → IsOn up (above up c) d → IsOn up c d
  on_above c d h k = among_along d (c ∷ path up (above up c)) (path up c) (sym (path_next c h)) (inr k)

  on_cases : (c d : ℕ) → 1 ≤ c → IsOn up c d → (d ≡ c) ⊎ IsOn up (above up c) d
  on_cases c d h k = among_along d (path up c) (c ∷ path up (above up c)) (path_next c h) k

  on_none : (d : ℕ) → IsOn up 0 d → ⊥
  on_none d h = among_along d (path up 0) [] (path_done up) h

  -- what holds along a path: of the column itself, and of each on the path of the one above it
  module _ (P : ℕ → ℕ → Type 0) (self : (c : ℕ) → 1 ≤ c → P c c) (further : (c d : ℕ) → 1 ≤ c → IsOn up (above up c) d → P (above up c) d → P c d) where
    along_within : (n c d : ℕ) → c ≤ n → IsOn up c d → P c d
    along_within n zero d l h = absurd (on_none d h)
    along_within zero (suc k) d l h = absurd (omega arith)
    along_within (suc n) (suc k) d l h =
        elim (on_cases (suc k) d (omega arith) h) [
          | inl e ↦ subst (λ m. P (suc k) m) (sym e) (self (suc k) (omega arith))
          | inr i ↦ let b : above up (suc k) ≤ k = above_less k in further (suc k) d (omega arith) i (along_within n (above up (suc k)) d (omega arith) i)
        ]

    along : (c d : ℕ) → IsOn up c d → P c d
    along c d h = along_within c c d (omega arith) h

  -- the numbers on a path
  pub on_least : (c d : ℕ) → IsOn up c d → 1 ≤ d
  on_least c d h = along (λ c d. 1 ≤ d) (λ c l. l) (λ c d l i p. p) c d h

  pub above_below : (c : ℕ) → 1 ≤ c → above up c < c
  above_below zero h = absurd (omega arith)
  above_below (suc k) h = let l : above up (suc k) ≤ k = above_less k in omega arith

  pub on_most : (c d : ℕ) → IsOn up c d → d ≤ c
  on_most c d h = along (λ c d. d ≤ c) (λ c l. omega arith) (λ c d l i p. let b : above up c < c = above_below c l in omega arith) c d h

  -- the next one upward is on the path too
  pub on_next : (c d : ℕ) → IsOn up c d → 1 ≤ above up d → IsOn up c (above up d)
  on_next c d h =
      along (λ c d. 1 ≤ above up d → IsOn up c (above up d))
      (λ c l k. on_above c (above up c) l (on_self (above up c) k))
      (λ c d l i p k. on_above c (above up d) l (p k)) c d h

  -- ---- depths
  pub depth_next : (c : ℕ) → 1 ≤ c → depth up c ≡ depth up (above up c) + 1
  depth_next c h = rw (path_next c h) (omega arith)

  pub depth_done : depth up 0 ≡ 0
  depth_done = rw (path_done up) refl

  depth_within : (n c : ℕ) → c ≤ n → depth up c ≤ c
  depth_within n zero l = let e : depth up 0 ≡ 0 = depth_done in omega arith
  depth_within zero (suc k) l = absurd (omega arith)
  depth_within (suc n) (suc k) l =
      let b : above up (suc k) ≤ k = above_less k in
      let e : depth up (suc k) ≡ depth up (above up (suc k)) + 1 = depth_next (suc k) (omega arith) in
      let h : depth up (above up (suc k)) ≤ above up (suc k) = depth_within n (above up (suc k)) (omega arith) in
      omega arith

  pub depth_most : (c : ℕ) → depth up c ≤ c
  depth_most c = depth_within c c (omega arith)

  depth_positive : (c : ℕ) → 1 ≤ c → 1 ≤ depth up c
  depth_positive c h = let e : depth up c ≡ depth up (above up c) + 1 = depth_next c h in omega arith

  depth_on : (c d : ℕ) → IsOn up c d → depth up d ≤ depth up c
  depth_on c d h =
      along (λ c d. depth up d ≤ depth up c) (λ c l. omega arith)
      (λ c d l i p. let e : depth up c ≡ depth up (above up c) + 1 = depth_next c l in omega arith) c d h

  -- on one path no two have one depth
  same_depth_within : (n c d e : ℕ) → c ≤ n → IsOn up c d → IsOn up c e → depth up d ≡ depth up e → d ≡ e
  same_depth_within n zero d e l h k q = absurd (on_none d h)
  same_depth_within zero (suc c) d e l h k q = absurd (omega arith)
  same_depth_within (suc n) (suc c) d e l h k q =
      let b : above up (suc c) ≤ c = above_less c in
      let z : depth up (suc c) ≡ depth up (above up (suc c)) + 1 = depth_next (suc c) (omega arith) in
      elim (on_cases (suc c) d (omega arith) h) [
        | inl i ↦ elim (on_cases (suc c) e (omega arith) k) [
          | inl j ↦ i ∙ sym j
          | inr j ↦
              let m : depth up e ≤ depth up (above up (suc c)) = depth_on (above up (suc c)) e j in
              let s : depth up d ≡ depth up (suc c) = ap (λ x. depth up x) i in
              absurd (omega arith)
        ]
        | inr i ↦ elim (on_cases (suc c) e (omega arith) k) [
          | inl j ↦
              let m : depth up d ≤ depth up (above up (suc c)) = depth_on (above up (suc c)) d i in
              let s : depth up e ≡ depth up (suc c) = ap (λ x. depth up x) j in
              absurd (omega arith)
          | inr j ↦ same_depth_within n (above up (suc c)) d e (omega arith) i j q
        ]
      ]

  same_depth : (c d e : ℕ) → IsOn up c d → IsOn up c e → depth up d ≡ depth up e → d ≡ e
  same_depth c d e h k q = same_depth_within c c d e (omega arith) h k q

  -- ---- places of pairs
  pub end-suc : (k : ℕ) → packed_end up (suc k) ≡ packed_end up k + depth up (suc k)
  unfolding packed_end
  end-suc k = refl

  ends_ascend : (b c : ℕ) → b ≤ c → packed_end up b ≤ packed_end up c
  ends_ascend b zero h = let e : b ≡ 0 = omega arith in let q : packed_end up b ≡ packed_end up 0 = ap (packed_end up) e in omega arith
  ends_ascend b (suc c) h =
      elim (cases_lt b (suc c)) [
        | inl l ↦ let q : packed_end up (suc c) ≡ packed_end up c + depth up (suc c) = end-suc c in let r : packed_end up b ≤ packed_end up c = ends_ascend b c (omega arith) in omega arith
        | inr g ↦ let e : b ≡ suc c = omega arith in let q : packed_end up b ≡ packed_end up (suc c) = ap (packed_end up) e in omega arith
      ]

  pub end_zero : packed_end up 0 ≡ 0
  unfolding packed_end
  end_zero = refl

  -- n numbers a column are enough for n columns
  pub ends_most : (n c : ℕ) → c ≤ n → packed_end up c ≤ n * c
  ends_most n zero h = let e : packed_end up 0 ≡ 0 = end_zero in omega arith
  ends_most n (suc c) h =
      let q : packed_end up (suc c) ≡ packed_end up c + depth up (suc c) = end-suc c in
      let d : depth up (suc c) ≤ suc c = depth_most (suc c) in
      let r : packed_end up c ≤ n * c = ends_most n c (omega arith) in
      let m : n * suc c ≡ n * c + n = omega arith in
      omega arith

  -- the place of a pair lies between the ends of the column before and of the column
  record IsBetween (c d : ℕ) : Type 0 where
    k : ℕ
    is : c ≡ suc k
    low : packed_end up k ≤ packed_place up c d
    high : packed_place up c d < packed_end up c
    back : packed_place up c d + depth up d ≡ packed_end up c

  between : (c d : ℕ) → IsOn up c d → IsBetween c d
  unfolding packed_place
  between zero d h = absurd (on_none d h)
  between (suc k) d h =
      let q : packed_end up (suc k) ≡ packed_end up k + depth up (suc k) = end-suc k in
      let m : depth up d ≤ depth up (suc k) = depth_on (suc k) d h in
      let l : 1 ≤ depth up d = depth_positive d (on_least (suc k) d h) in
      record { k = k; is = refl; low = omega arith; high = omega arith; back = omega arith }

  -- it is a place of the table
  pub place_within : (c d : ℕ) → c ≤ length up → IsOn up c d → packed_place up c d < packed_end up (length up)
  place_within c d l h =
      let b : IsBetween c d = between c d h in
      let high : packed_place up c d < packed_end up c = b.high in
      let e : packed_end up c ≤ packed_end up (length up) = ends_ascend c (length up) l in
      omega arith

  pub depth_fits : (c d : ℕ) → IsOn up c d → depth up d ≤ packed_end up c
  depth_fits c d h = let b : IsBetween c d = between c d h in let e : packed_place up c d + depth up d ≡ packed_end up c = b.back in omega arith

  before : (c d e f : ℕ) → c < e → IsBetween c d → IsBetween e f → packed_place up c d < packed_place up e f
  before c d e f l h k =
      let high : packed_place up c d < packed_end up c = h.high in
      let low : packed_end up k.k ≤ packed_place up e f = k.low in
      let is : e ≡ suc k.k = k.is in
      let m : packed_end up c ≤ packed_end up k.k = ends_ascend c k.k (omega arith) in
      omega arith

  -- two pairs with one place are one
  pub same_place : (c d e f : ℕ) → IsOn up c d → IsOn up e f → packed_place up c d ≡ packed_place up e f → (c ≡ e) × (d ≡ f)
  same_place c d e f h k q =
      elim (cases_lt c e) [
        | inl l ↦ let m : packed_place up c d < packed_place up e f = before c d e f l (between c d h) (between e f k) in absurd (omega arith)
        | inr g ↦ elim (cases_lt e c) [
          | inl l ↦ let m : packed_place up e f < packed_place up c d = before e f c d l (between e f k) (between c d h) in absurd (omega arith)
          | inr l ↦
              let s : c ≡ e = omega arith in
              let k' : IsOn up c f = subst (λ x. IsOn up x f) (sym s) k in
              let a : packed_place up c d + depth up d ≡ packed_end up c = (between c d h).back in
              let b : packed_place up e f + depth up f ≡ packed_end up e = (between e f k).back in
              let z : packed_end up c ≡ packed_end up e = ap (packed_end up) s in
              (s, same_depth c d f h k' (omega arith))
        ]
      ]

  -- ---- the test
  pub is_on_true : (c d : ℕ) → IsOn up c d → is_on up c d ≡ true
  is_on_true c d h = any_among d (path up c) h

  is_on_false : (c d : ℕ) → (IsOn up c d → ⊥) → is_on up c d ≡ false
  is_on_false c d h = none_any d (path up c) h

  -- a column above d on the path of another goes on to the next
  pub test_next : (c d : ℕ) → d < c → is_on up (above up c) d ≡ is_on up c d
  test_next c d h =
      let l : 1 ≤ c = omega arith in
      let e : (c == d) ≡ false = not_same c d (omega arith) in
      rw (path_next c l, e) refl

  pub test_self : (c d : ℕ) → c ≡ d → 1 ≤ c → is_on up c d ≡ true
  test_self c d e l = is_on_true c d (subst (λ x. IsOn up c x) e (on_self c l))

  pub test_past : (c d : ℕ) → c < d → is_on up c d ≡ false
  test_past c d h = is_on_false c d (λ i. let m : d ≤ c = on_most c d i in absurd (omega arith))

  pub test_world : (d : ℕ) → is_on up 0 d ≡ false
  test_world d = is_on_false 0 d (on_none d)

  -- the way upward from a column stops at the first number that is not above d
  pub test_stopped : (c d : ℕ) → c ≤ d → c ≢ 0 → (c == d) ≡ is_on up c d
  test_stopped c d h n =
      elim (cases_lt c d) [
        | inl l ↦ not_same c d (λ e. absurd (omega arith)) ∙ sym (test_past c d l)
        | inr g ↦ let e : c ≡ d = omega arith in is_same c d e ∙ sym (test_self c d e (omega arith))
      ]

  pub test_left : (c d : ℕ) → c ≡ 0 → not (c == 0) ≡ is_on up c d
  test_left c d e = rw e (sym (test_world d))

  -- the greater of two on one path has the lesser on its path
  pub pair_of : (c d : ℕ) → IsOn up c d → IsOn up (max c d) (min c d)
  pair_of c d h =
      let m : d ≤ c = on_most c d h in
      let e : max c d ≡ c = omega arith in
      let f : min c d ≡ d = omega arith in
      rw (e, f) h

-- what the lists of ends and depths tell of a pair
pub record TellsPlace (up : List ℕ) (c d end deep : ℕ) : Type 0 where
  pub below : deep ≤ end
  pub place : end - deep ≡ packed_place up c d
  pub within : end - deep < packed_length up

module _ (up depths ends : List ℕ) (ascends : Ascends up) (a : AreDepths up depths) (b : AreEnds up ends) (c d : ℕ) (l : c ≤ length up) (on : IsOn up c d) where
  pub depth_listed : d < length depths
  depth_listed = let m : d ≤ c = on_most up ascends c d on in let h : length depths ≡ length up + 1 = a.long in omega arith

  pub tells_place : (end deep : ℕ) → end ≡ slice_index_or ends c end → deep ≡ slice_index_or depths d deep → TellsPlace up c d end deep
  unfolding packed_place
  tells_place end deep e g =
      let m : d ≤ c = on_most up ascends c d on in
      let ld : length depths ≡ length up + 1 = a.long in
      let le : length ends ≡ length up + 1 = b.long in
      let end_is : end ≡ packed_end up c = e ∙ get_or_default ends c end 0 (omega arith) ∙ b.each c l in
      let deep_is : deep ≡ depth up d = g ∙ get_or_default depths d deep 0 (omega arith) ∙ a.each d (omega arith) in
      let w : packed_place up c d < packed_length up = place_within up ascends c d l on in
      let f : depth up d ≤ packed_end up c = depth_fits up ascends c d on in
      record { below = omega arith; place = cc; within = omega arith }

-- ---- the lists of depths and ends as they grow
pub up_to_more : (n : ℕ) (f : ℕ → ℕ) (items more : List ℕ) (x : ℕ) → AreUpTo n f items → more ≡ items ++ x ∷ [] → x ≡ f (n + 1) → AreUpTo (n + 1) f more
up_to_more n f items more x h e g =
    let l : length items ≡ n + 1 = h.long in
    record {
      long = rw (e, length-append) (omega arith);
      each = λ c k. elim (cases_lt c (n + 1)) [
        | inl m ↦ rw e (get_or_append_left items (x ∷ []) 0 c (omega arith) ∙ h.each c (omega arith))
        | inr m ↦
            let s : c ≡ length items = omega arith in
            let t : n + 1 ≡ c = omega arith in
            rw e (rw s (get_or-append_seam items x [] 0) ∙ g ∙ ap f t)
      ];
    }

pub up_to_one : (f : ℕ → ℕ) (items : List ℕ) (x : ℕ) → items ≡ x ∷ [] → x ≡ f 0 → AreUpTo 0 f items
up_to_one f items x e g = record { long = rw e refl; each = λ c k. let s : c ≡ 0 = omega arith in rw (e, s) g }

-- one more depth, and one more end
module _ (up : List ℕ) (ascends : Ascends up) (n : ℕ) (l : n < length up) where
  above_listed_less : slice_index_or up n 0 ≤ n
  above_listed_less = above_less up ascends n

  pub above_has_depth : (depths : List ℕ) → length depths ≡ n + 1 → slice_index_or up n 0 < length depths
  above_has_depth depths h = let m : slice_index_or up n 0 ≤ n = above_listed_less in omega arith

  pub next_depth : (depths : List ℕ) (deep : ℕ) → AreUpTo n (depth up) depths → deep ≡ slice_index_or depths (slice_index_or up n 0) deep → (deep ≤ n) × (deep + 1 ≡ depth up (n + 1))
  next_depth depths deep h e =
      let low : slice_index_or up n 0 ≤ n = above_listed_less in
      let long : length depths ≡ n + 1 = h.long in
      let is : deep ≡ depth up (slice_index_or up n 0) = e ∙ get_or_default depths (slice_index_or up n 0) deep 0 (omega arith) ∙ h.each (slice_index_or up n 0) low in
      let most : depth up (slice_index_or up n 0) ≤ slice_index_or up n 0 = depth_most up ascends (slice_index_or up n 0) in
      let next : depth up (suc n) ≡ depth up (slice_index_or up n 0) + 1 = depth_next up ascends (suc n) (omega arith) in
      let s : depth up (n + 1) ≡ depth up (suc n) = ap (depth up) (omega arith) in
      (omega arith, omega arith)

  pub next_end : (depths : List ℕ) (end : ℕ) → AreDepths up depths → length up ≤ 64 → end ≡ packed_end up n
      → (end + slice_index_or depths (n + 1) 0 ≤ 4096) × (end + slice_index_or depths (n + 1) 0 ≡ packed_end up (n + 1))
  next_end depths end h few e =
      let deep_is : slice_index_or depths (n + 1) 0 ≡ depth up (n + 1) = h.each (n + 1) (omega arith) in
      let s : packed_end up (n + 1) ≡ packed_end up (suc n) = ap (packed_end up) (omega arith) in
      let d : depth up (n + 1) ≡ depth up (suc n) = ap (depth up) (omega arith) in
      let q : packed_end up (suc n) ≡ packed_end up n + depth up (suc n) = end-suc up ascends n in
      let most : packed_end up (suc n) ≤ 64 * suc n = ends_most up ascends 64 (suc n) (omega arith) in
      (omega arith, omega arith)

-- the last end is the length of the table
pub last_end : (up ends : List ℕ) → AreEnds up ends → (end : ℕ) → end ≡ slice_index_or ends (length up) end → end ≡ packed_length up
last_end up ends h end e =
    let long : length ends ≡ length up + 1 = h.long in
    e ∙ get_or_default ends (length up) end 0 (omega arith) ∙ h.each (length up) (omega arith)
