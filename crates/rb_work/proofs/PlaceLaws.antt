-- What a call over the places of a work has to show.
use Rattle.std.proofs.Common.{◌≡◌, ◌≢◌, ℕ, zero, suc, ◌+◌, ◌*◌, ◌<◌, ◌≤◌, List, length, slice_index_or, slice_set, [], ◌∷◌, Result, inl, inr, refl, ap, ◌∙◌, arith, get_or-set_other, get_or-set_same}
use Rattle.rb_result.specs.Steps.{◌>>=◌}
use Rattle.rb_sweep.specs.Sweep.{Among}
use Rattle.rb_sweep.specs.Naming.{Naming, run}
use Rattle.rb_sweep.proofs.Climbing.{Climbs, then_same}
use Rattle.rb_sweep.proofs.NamingLaws.{Shape, IsOrdered}
use Rattle.rb_work.specs.declared.names.RowFault.{RowFault}
use Rattle.rb_work.specs.Path.{Ascends, IsOn, packed_length, packed_place}
use Rattle.rb_work.specs.View.{Extent, View, full_place, column_place, row_place}
use Rattle.rb_work.specs.Place.{Place, q_of, X_of, s_of, v_of, c_of, a_of, b_of, f_of, t_of, T_of, I_of, H_of, packed_of, w_of, z_of, x_of, IA_of, p_of, U_of, u_of, Ia_of, pa_of, O_of, K_of, J_of, g_of, Y_of, Z_of, pair_of, e_of, lam_of, k_of, y_of, ValueOf, look, put, Rule, names}
use Rattle.rb_work.proofs.PathLaws.{place_within, same_place}
use Rattle.rb_work.proofs.Sizes.{sizes_of, sizes_for, sizes_q, sizes_X, sizes_s, sizes_v, sizes_c, sizes_a, sizes_b, sizes_f, sizes_t, sizes_T, sizes_I, sizes_H, sizes_packed, sizes_w, sizes_z, sizes_x, sizes_IA, sizes_p, sizes_U, sizes_u, sizes_Ia, sizes_pa, sizes_O, sizes_K, sizes_J, sizes_g, sizes_Y, sizes_Z, sizes_pairs, sizes_e, sizes_lam, sizes_k, sizes_y}

-- ---- the places, once for all calls
-- the place is there in a work that is made for this
abbrev pub Inside : Extent → Place → Type 0
Inside e (q_of i) = i ≤ e.bodies
Inside e (X_of i) = i ≤ e.bodies
Inside e (s_of i) = i ≤ e.bodies
Inside e (v_of i) = i ≤ e.bodies
Inside e (c_of i) = i ≤ e.bodies
Inside e (a_of i) = i ≤ e.bodies
Inside e (b_of i) = i ≤ e.bodies
Inside e (f_of i) = i ≤ e.bodies
Inside e (t_of i) = i ≤ e.bodies
Inside e (T_of c) = c ≤ length e.up
Inside e (I_of i) = i ≤ e.bodies
Inside e (H_of k l) = (k ≤ e.full) × (l ≤ e.full)
Inside e (packed_of c d) = (c ≤ length e.up) × IsOn e.up c d
Inside e (w_of c) = c ≤ length e.up
Inside e (z_of c) = c ≤ length e.up
Inside e (x_of c) = c ≤ length e.up
Inside e (IA_of i) = i ≤ e.bodies
Inside e (p_of i) = i ≤ e.bodies
Inside e (U_of c) = c ≤ length e.up
Inside e (u_of c) = c ≤ length e.up
Inside e (Ia_of i) = i ≤ e.bodies
Inside e (pa_of i) = i ≤ e.bodies
Inside e (O_of i) = i ≤ e.bodies
Inside e (K_of r) = r ≤ e.rows
Inside e (J_of r c) = (r ≤ e.rows) × (c ≤ length e.up)
Inside e (g_of r) = r ≤ e.rows
Inside e (Y_of r c) = (r ≤ e.rows) × (c ≤ length e.up)
Inside e (Z_of r c) = (r ≤ e.rows) × (c ≤ length e.up)
Inside e (pair_of r s) = (r ≤ e.rows) × (s ≤ e.rows)
Inside e (e_of r) = r ≤ e.rows
Inside e (lam_of r) = r ≤ e.rows
Inside e (k_of c) = c ≤ length e.up
Inside e (y_of c) = c ≤ length e.up

-- two numbers that stand at one place of a square table are the same
same_two : (n a b c d : ℕ) → b < n → d < n → a * n + b ≡ c * n + d → (a ≡ c) × (b ≡ d)
same_two n zero b zero d h k e = (refl, omega arith)
same_two n zero b (suc c) d h k e = let m : suc c * n ≡ c * n + n = omega arith in absurd (omega arith)
same_two n (suc a) b zero d h k e = let m : suc a * n ≡ a * n + n = omega arith in absurd (omega arith)
same_two n (suc a) b (suc c) d h k e =
    let m : suc a * n ≡ a * n + n = omega arith in
    let l : suc c * n ≡ c * n + n = omega arith in
    let s = same_two n a b c d h k (omega arith) in
    (ap suc s.0, s.1)

two_within : (n m a b : ℕ) → a < m → b < n → a * n + b < m * n
two_within n zero a b h k = absurd (omega arith)
two_within n (suc m) zero b h k = let l : suc m * n ≡ m * n + n = omega arith in omega arith
two_within n (suc m) (suc a) b h k =
    let l : suc m * n ≡ m * n + n = omega arith in
    let j : suc a * n ≡ a * n + n = omega arith in
    let r : a * n + b < m * n = two_within n m a b (omega arith) k in
    omega arith

-- of tables that are as wide and as long as they should be
in_table : (wide n m a b long : ℕ) → wide ≡ n → long ≡ m * n → a < m → b < n → a * wide + b < long
in_table wide n m a b long e f h k = rw (e, f) (two_within n m a b h k)

apart_in_table : (wide n a b c d : ℕ) → wide ≡ n → b < n → d < n → ((a ≡ c) × (b ≡ d) → ⊥) → a * wide + b ≢ c * wide + d
apart_in_table wide n a b c d e h k differ = λ s. differ (same_two n a b c d h k (rw e at s))

set_here : {A : Type 0} (xs : List A) (i : ℕ) (x d : A) (n : ℕ) → length xs ≡ n + 1 → i ≤ n → slice_index_or (slice_set xs i x) i d ≡ x
set_here xs i x d n l h = let m : i < length xs = omega arith in rw get_or-set_same refl

-- each kind of table of two numbers, in a work that is made for this
module _ (e : Extent) (w : View) (f : sizes_of w ≡ sizes_for e) where
  in_full : (k l long : ℕ) → long ≡ (e.full + 1) * (e.full + 1) → (k ≤ e.full) × (l ≤ e.full) → full_place w k l < long
  in_full k l long h i = in_table (w.full + 1) (e.full + 1) (e.full + 1) k l long (ap (λ z. z.extent.full + 1) f) h (omega (arith, i.0)) (omega (arith, i.1))

  apart_in_full : (k l m n : ℕ) → l ≤ e.full → n ≤ e.full → ((k ≡ m) × (l ≡ n) → ⊥) → full_place w k l ≢ full_place w m n
  apart_in_full k l m n h i differ = apart_in_table (w.full + 1) (e.full + 1) k l m n (ap (λ z. z.extent.full + 1) f) (omega arith) (omega arith) differ

  in_columns : (r c long : ℕ) → long ≡ (e.rows + 1) * (length e.up + 1) → (r ≤ e.rows) × (c ≤ length e.up) → column_place w r c < long
  in_columns r c long h i = in_table (length w.up + 1) (length e.up + 1) (e.rows + 1) r c long (ap (λ z. length z.extent.up + 1) f) h (omega (arith, i.0)) (omega (arith, i.1))

  apart_in_columns : (r c q d : ℕ) → c ≤ length e.up → d ≤ length e.up → ((r ≡ q) × (c ≡ d) → ⊥) → column_place w r c ≢ column_place w q d
  apart_in_columns r c q d h i differ = apart_in_table (length w.up + 1) (length e.up + 1) r c q d (ap (λ z. length z.extent.up + 1) f) (omega arith) (omega arith) differ

  in_rows : (r s long : ℕ) → long ≡ (e.rows + 1) * (e.rows + 1) → (r ≤ e.rows) × (s ≤ e.rows) → row_place w r s < long
  in_rows r s long h i = in_table (w.rows + 1) (e.rows + 1) (e.rows + 1) r s long (ap (λ z. z.extent.rows + 1) f) h (omega (arith, i.0)) (omega (arith, i.1))

  apart_in_rows : (r s p q : ℕ) → s ≤ e.rows → q ≤ e.rows → ((r ≡ p) × (s ≡ q) → ⊥) → row_place w r s ≢ row_place w p q
  apart_in_rows r s p q h i differ = apart_in_table (w.rows + 1) (e.rows + 1) r s p q (ap (λ z. z.extent.rows + 1) f) (omega arith) (omega arith) differ

  module _ (asc : Ascends e.up) where
    in_packed : (c d long : ℕ) → long ≡ packed_length e.up → (c ≤ length e.up) × IsOn e.up c d → packed_place w.up c d < long
    in_packed c d long h i = let up : w.up ≡ e.up = ap (λ z. z.extent.up) f in rw (up, h) (place_within e.up asc c d i.0 i.1)

    apart_in_packed : (c d b p : ℕ) → IsOn e.up c d → IsOn e.up b p → ((c ≡ b) × (d ≡ p) → ⊥) → packed_place w.up c d ≢ packed_place w.up b p
    apart_in_packed c d b p h i differ = λ s. let up : w.up ≡ e.up = ap (λ z. z.extent.up) f in differ (same_place e.up asc c d b p h i (rw up at s))

look_same : (e : Extent) → Ascends e.up → (m : Place) (x : ValueOf m) (w : View) → Inside e m → sizes_of w ≡ sizes_for e → look m (put m x w) ≡ x
look_same e asc (q_of i) x w h f = set_here w.q i x _ e.bodies (ap (λ z. z.q) f) h
look_same e asc (X_of i) x w h f = set_here w.X i x _ e.bodies (ap (λ z. z.X) f) h
look_same e asc (s_of i) x w h f = set_here w.s i x _ e.bodies (ap (λ z. z.s) f) h
look_same e asc (v_of i) x w h f = set_here w.v i x _ e.bodies (ap (λ z. z.v) f) h
look_same e asc (c_of i) x w h f = set_here w.c i x _ e.bodies (ap (λ z. z.c) f) h
look_same e asc (a_of i) x w h f = set_here w.a i x _ e.bodies (ap (λ z. z.a) f) h
look_same e asc (b_of i) x w h f = set_here w.b i x _ e.bodies (ap (λ z. z.b) f) h
look_same e asc (f_of i) x w h f = set_here w.f i x _ e.bodies (ap (λ z. z.f) f) h
look_same e asc (t_of i) x w h f = set_here w.t i x _ e.bodies (ap (λ z. z.t) f) h
look_same e asc (T_of c) x w h f = set_here w.T c x _ (length e.up) (ap (λ z. z.T) f) h
look_same e asc (I_of i) x w h f = set_here w.I i x _ e.bodies (ap (λ z. z.I) f) h
look_same e asc (H_of k l) x w h f = let n : full_place w k l < length w.H = in_full e w f k l (length w.H) (ap (λ z. z.H) f) h in rw get_or-set_same refl
look_same e asc (packed_of c d) x w h f = let n : packed_place w.up c d < length w.packed = in_packed e w f asc c d (length w.packed) (ap (λ z. z.packed) f) h in rw get_or-set_same refl
look_same e asc (w_of c) x w h f = set_here w.w c x _ (length e.up) (ap (λ z. z.w) f) h
look_same e asc (z_of c) x w h f = set_here w.z c x _ (length e.up) (ap (λ z. z.z) f) h
look_same e asc (x_of c) x w h f = set_here w.x c x _ (length e.up) (ap (λ z. z.x) f) h
look_same e asc (IA_of i) x w h f = set_here w.IA i x _ e.bodies (ap (λ z. z.IA) f) h
look_same e asc (p_of i) x w h f = set_here w.p i x _ e.bodies (ap (λ z. z.p) f) h
look_same e asc (U_of c) x w h f = set_here w.U c x _ (length e.up) (ap (λ z. z.U) f) h
look_same e asc (u_of c) x w h f = set_here w.u c x _ (length e.up) (ap (λ z. z.u) f) h
look_same e asc (Ia_of i) x w h f = set_here w.Ia i x _ e.bodies (ap (λ z. z.Ia) f) h
look_same e asc (pa_of i) x w h f = set_here w.pa i x _ e.bodies (ap (λ z. z.pa) f) h
look_same e asc (O_of i) x w h f = set_here w.O i x _ e.bodies (ap (λ z. z.O) f) h
look_same e asc (K_of r) x w h f = set_here w.K r x _ e.rows (ap (λ z. z.K) f) h
look_same e asc (J_of r c) x w h f = let n : column_place w r c < length w.J = in_columns e w f r c (length w.J) (ap (λ z. z.J) f) h in rw get_or-set_same refl
look_same e asc (g_of r) x w h f = set_here w.g r x _ e.rows (ap (λ z. z.g) f) h
look_same e asc (Y_of r c) x w h f = let n : column_place w r c < length w.Y = in_columns e w f r c (length w.Y) (ap (λ z. z.Y) f) h in rw get_or-set_same refl
look_same e asc (Z_of r c) x w h f = let n : column_place w r c < length w.Z = in_columns e w f r c (length w.Z) (ap (λ z. z.Z) f) h in rw get_or-set_same refl
look_same e asc (pair_of r s) x w h f = let n : row_place w r s < length w.pairs = in_rows e w f r s (length w.pairs) (ap (λ z. z.pairs) f) h in rw get_or-set_same refl
look_same e asc (e_of r) x w h f = set_here w.e r x _ e.rows (ap (λ z. z.e) f) h
look_same e asc (lam_of r) x w h f = set_here w.lam r x _ e.rows (ap (λ z. z.lam) f) h
look_same e asc (k_of c) x w h f = set_here w.k c x _ (length e.up) (ap (λ z. z.k) f) h
look_same e asc (y_of c) x w h f = set_here w.y c x _ (length e.up) (ap (λ z. z.y) f) h

look_other : (e : Extent) → Ascends e.up → (m q : Place) (x : ValueOf q) (w : View) → Inside e m → Inside e q → sizes_of w ≡ sizes_for e → m ≢ q → look m (put q x w) ≡ look m w
look_other e asc (q_of i) (q_of j) x w h g f differ = let ne : i ≢ j = λ same. differ (ap q_of same) in rw get_or-set_other refl
look_other e asc (X_of i) (X_of j) x w h g f differ = let ne : i ≢ j = λ same. differ (ap X_of same) in rw get_or-set_other refl
look_other e asc (s_of i) (s_of j) x w h g f differ = let ne : i ≢ j = λ same. differ (ap s_of same) in rw get_or-set_other refl
look_other e asc (v_of i) (v_of j) x w h g f differ = let ne : i ≢ j = λ same. differ (ap v_of same) in rw get_or-set_other refl
look_other e asc (c_of i) (c_of j) x w h g f differ = let ne : i ≢ j = λ same. differ (ap c_of same) in rw get_or-set_other refl
look_other e asc (a_of i) (a_of j) x w h g f differ = let ne : i ≢ j = λ same. differ (ap a_of same) in rw get_or-set_other refl
look_other e asc (b_of i) (b_of j) x w h g f differ = let ne : i ≢ j = λ same. differ (ap b_of same) in rw get_or-set_other refl
look_other e asc (f_of i) (f_of j) x w h g f differ = let ne : i ≢ j = λ same. differ (ap f_of same) in rw get_or-set_other refl
look_other e asc (t_of i) (t_of j) x w h g f differ = let ne : i ≢ j = λ same. differ (ap t_of same) in rw get_or-set_other refl
look_other e asc (T_of c) (T_of d) x w h g f differ = let ne : c ≢ d = λ same. differ (ap T_of same) in rw get_or-set_other refl
look_other e asc (I_of i) (I_of j) x w h g f differ = let ne : i ≢ j = λ same. differ (ap I_of same) in rw get_or-set_other refl
look_other e asc (H_of k l) (H_of m n) x w h g f differ =
    let ne : full_place w k l ≢ full_place w m n = apart_in_full e w f k l m n h.1 g.1 (λ same. let first : k ≡ m = same.0 in let second : l ≡ n = same.1 in differ (cc)) in
    rw get_or-set_other refl
look_other e asc (packed_of c d) (packed_of b p) x w h g f differ =
    let ne : packed_place w.up c d ≢ packed_place w.up b p = apart_in_packed e w f asc c d b p h.1 g.1 (λ same. let first : c ≡ b = same.0 in let second : d ≡ p = same.1 in differ (cc)) in
    rw get_or-set_other refl
look_other e asc (w_of c) (w_of d) x w h g f differ = let ne : c ≢ d = λ same. differ (ap w_of same) in rw get_or-set_other refl
look_other e asc (z_of c) (z_of d) x w h g f differ = let ne : c ≢ d = λ same. differ (ap z_of same) in rw get_or-set_other refl
look_other e asc (x_of c) (x_of d) x w h g f differ = let ne : c ≢ d = λ same. differ (ap x_of same) in rw get_or-set_other refl
look_other e asc (IA_of i) (IA_of j) x w h g f differ = let ne : i ≢ j = λ same. differ (ap IA_of same) in rw get_or-set_other refl
look_other e asc (p_of i) (p_of j) x w h g f differ = let ne : i ≢ j = λ same. differ (ap p_of same) in rw get_or-set_other refl
look_other e asc (U_of c) (U_of d) x w h g f differ = let ne : c ≢ d = λ same. differ (ap U_of same) in rw get_or-set_other refl
look_other e asc (u_of c) (u_of d) x w h g f differ = let ne : c ≢ d = λ same. differ (ap u_of same) in rw get_or-set_other refl
look_other e asc (Ia_of i) (Ia_of j) x w h g f differ = let ne : i ≢ j = λ same. differ (ap Ia_of same) in rw get_or-set_other refl
look_other e asc (pa_of i) (pa_of j) x w h g f differ = let ne : i ≢ j = λ same. differ (ap pa_of same) in rw get_or-set_other refl
look_other e asc (O_of i) (O_of j) x w h g f differ = let ne : i ≢ j = λ same. differ (ap O_of same) in rw get_or-set_other refl
look_other e asc (K_of r) (K_of s) x w h g f differ = let ne : r ≢ s = λ same. differ (ap K_of same) in rw get_or-set_other refl
look_other e asc (J_of r c) (J_of q d) x w h g f differ =
    let ne : column_place w r c ≢ column_place w q d = apart_in_columns e w f r c q d h.1 g.1 (λ same. let first : r ≡ q = same.0 in let second : c ≡ d = same.1 in differ (cc)) in
    rw get_or-set_other refl
look_other e asc (g_of r) (g_of s) x w h g f differ = let ne : r ≢ s = λ same. differ (ap g_of same) in rw get_or-set_other refl
look_other e asc (Y_of r c) (Y_of q d) x w h g f differ =
    let ne : column_place w r c ≢ column_place w q d = apart_in_columns e w f r c q d h.1 g.1 (λ same. let first : r ≡ q = same.0 in let second : c ≡ d = same.1 in differ (cc)) in
    rw get_or-set_other refl
look_other e asc (Z_of r c) (Z_of q d) x w h g f differ =
    let ne : column_place w r c ≢ column_place w q d = apart_in_columns e w f r c q d h.1 g.1 (λ same. let first : r ≡ q = same.0 in let second : c ≡ d = same.1 in differ (cc)) in
    rw get_or-set_other refl
look_other e asc (pair_of r s) (pair_of p q) x w h g f differ =
    let ne : row_place w r s ≢ row_place w p q = apart_in_rows e w f r s p q h.1 g.1 (λ same. let first : r ≡ p = same.0 in let second : s ≡ q = same.1 in differ (cc)) in
    rw get_or-set_other refl
look_other e asc (e_of r) (e_of s) x w h g f differ = let ne : r ≢ s = λ same. differ (ap e_of same) in rw get_or-set_other refl
look_other e asc (lam_of r) (lam_of s) x w h g f differ = let ne : r ≢ s = λ same. differ (ap lam_of same) in rw get_or-set_other refl
look_other e asc (k_of c) (k_of d) x w h g f differ = let ne : c ≢ d = λ same. differ (ap k_of same) in rw get_or-set_other refl
look_other e asc (y_of c) (y_of d) x w h g f differ = let ne : c ≢ d = λ same. differ (ap y_of same) in rw get_or-set_other refl
look_other e asc _ _ x w h g f differ = refl

put_sizes : (m : Place) (x : ValueOf m) (w : View) → sizes_of (put m x w) ≡ sizes_of w
put_sizes (q_of i) x w = sizes_q w i x
put_sizes (X_of i) x w = sizes_X w i x
put_sizes (s_of i) x w = sizes_s w i x
put_sizes (v_of i) x w = sizes_v w i x
put_sizes (c_of i) x w = sizes_c w i x
put_sizes (a_of i) x w = sizes_a w i x
put_sizes (b_of i) x w = sizes_b w i x
put_sizes (f_of i) x w = sizes_f w i x
put_sizes (t_of i) x w = sizes_t w i x
put_sizes (T_of c) x w = sizes_T w c x
put_sizes (I_of i) x w = sizes_I w i x
put_sizes (H_of k l) x w = sizes_H w (full_place w k l) x
put_sizes (packed_of c d) x w = sizes_packed w (packed_place w.up c d) x
put_sizes (w_of c) x w = sizes_w w c x
put_sizes (z_of c) x w = sizes_z w c x
put_sizes (x_of c) x w = sizes_x w c x
put_sizes (IA_of i) x w = sizes_IA w i x
put_sizes (p_of i) x w = sizes_p w i x
put_sizes (U_of c) x w = sizes_U w c x
put_sizes (u_of c) x w = sizes_u w c x
put_sizes (Ia_of i) x w = sizes_Ia w i x
put_sizes (pa_of i) x w = sizes_pa w i x
put_sizes (O_of i) x w = sizes_O w i x
put_sizes (K_of r) x w = sizes_K w r x
put_sizes (J_of r c) x w = sizes_J w (column_place w r c) x
put_sizes (g_of r) x w = sizes_g w r x
put_sizes (Y_of r c) x w = sizes_Y w (column_place w r c) x
put_sizes (Z_of r c) x w = sizes_Z w (column_place w r c) x
put_sizes (pair_of r s) x w = sizes_pairs w (row_place w r s) x
put_sizes (e_of r) x w = sizes_e w r x
put_sizes (lam_of r) x w = sizes_lam w r x
put_sizes (k_of c) x w = sizes_k w c x
put_sizes (y_of c) x w = sizes_y w c x

-- ---- what a call has to show
-- what the work is made for, the ranks of its names, which names are its own, which it is given, the work without its tables, and its sweep
pub record Call : Type 1 where
  pub rule : Rule
  pub order : List Place
  pub extent : Extent
  pub rank : Place → ℕ
  pub Own : Place → Type 0
  pub Read : Place → Type 0
  pub rest : View → View
  pub sweep : View → Result View RowFault

abbrev pub naming : Call → Naming View RowFault
naming c = names c.rule c.order

pub record IsCall (c : Call) : Type 0 where
  pub ascends : Ascends c.extent.up
  pub first : ℕ
  pub end : ℕ
  pub climbs : Climbs c.rank c.Own first c.order end
  pub listed : (m : Place) → c.Own m → Among m c.order
  pub inside : (m : Place) → c.Own m → Inside c.extent m
  pub apart : (m : Place) (x : ValueOf m) (w : View) → c.Own m → c.rest w ≡ c.rest (put m x w)
  pub reads : (n : Place) (s t : View) → c.Own n → ((m : Place) → c.Read m → look m (c.rest s) ≡ look m (c.rest t))
      → ((m : Place) → c.Own m → c.rank m < c.rank n → look m s ≡ look m t) → c.rule n s ≡ c.rule n t
  pub runs : (w : View) → c.sweep w ≡ run (naming c) c.order w

abbrev pub shape : (c : Call) → Shape (naming c)
shape c = record {
  rank = c.rank;
  Known = c.Own;
  Fits = λ w. sizes_of w ≡ sizes_for c.extent;
  Kept = View;
  kept = c.rest;
  Given = (m : Place) × c.Read m;
  Worth = λ g. ValueOf g.0;
  given = λ g w. look g.0 w;
  sweep = c.sweep;
}

pub ordered : (c : Call) → IsCall c → IsOrdered (naming c) (shape c)
ordered c h = record {
  first = h.first;
  end = h.end;
  climbs = h.climbs;
  listed = h.listed;
  reads = λ n s t k g l. h.reads n s t k (λ m r. g (m, r)) l;
  put_same = λ n x w k f. look_same c.extent h.ascends n x w (h.inside n k) f;
  put_other = λ m n x w k j f l. look_other c.extent h.ascends m n x w (h.inside m k) (h.inside n j) f (λ e. let same : c.rank m ≡ c.rank n = ap c.rank e in omega arith);
  put_fits = λ n x w f. put_sizes n x w ∙ f;
  put_kept = λ n x w k. h.apart n x w k;
  runs = h.runs;
}

-- two runs over the same names, by rules that are the same for these
pub run_same : (r q : Rule) (o e : List Place) (ns : List Place) → ((n : Place) → Among n ns → (w : View) → r n w ≡ q n w) → (w : View) → run (names r o) ns w ≡ run (names q e) ns w
run_same r q o e [] h w = refl
run_same r q o e (n ∷ ns) h w =
    ap (λ x. x >>= λ y. run (names r o) ns (put n y w)) (h n (inl refl) w)
    ∙ then_same (q n w) _ _ (λ x. run_same r q o e ns (λ m i w. h m (inr i) w) (put n x w))
