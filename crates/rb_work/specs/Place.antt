-- The places of a work: one for each name, but that the names of one table have one place there.
use Rattle.std.specs.Prelude.{ℕ, List, Result, slice_set}
use Rattle.rb_num.specs.Interval.{Interval}
use Rattle.rb_frac.specs.Tables.{Table}
use Rattle.rb_frac.specs.Spatial as S
use Rattle.rb_work.specs.declared.names.RowFault.{RowFault}
use Rattle.rb_work.specs.Path.{packed_place}
use Rattle.rb_sweep.specs.Naming.{Naming}
use Rattle.rb_work.specs.View as V
use Rattle.rb_work.specs.View.{View, full_place, column_place, row_place}

pub data Place : Type 0 where
  q_of : ℕ → Place
  X_of : ℕ → Place
  s_of : ℕ → Place
  v_of : ℕ → Place
  c_of : ℕ → Place
  a_of : ℕ → Place
  b_of : ℕ → Place
  f_of : ℕ → Place
  t_of : ℕ → Place
  T_of : ℕ → Place
  I_of : ℕ → Place
  H_of : ℕ → ℕ → Place
  packed_of : ℕ → ℕ → Place
  w_of : ℕ → Place
  z_of : ℕ → Place
  x_of : ℕ → Place
  IA_of : ℕ → Place
  p_of : ℕ → Place
  U_of : ℕ → Place
  u_of : ℕ → Place
  Ia_of : ℕ → Place
  pa_of : ℕ → Place
  O_of : ℕ → Place
  K_of : ℕ → Place
  J_of : ℕ → ℕ → Place
  g_of : ℕ → Place
  Y_of : ℕ → ℕ → Place
  Z_of : ℕ → ℕ → Place
  pair_of : ℕ → ℕ → Place
  e_of : ℕ → Place
  lam_of : ℕ → Place
  k_of : ℕ → Place
  y_of : ℕ → Place

abbrev pub ValueOf : Place → Type 0
ValueOf (q_of i) = List Interval
ValueOf (X_of i) = S.Place Interval
ValueOf (s_of i) = List Interval
ValueOf (v_of i) = S.Motion Interval
ValueOf (c_of i) = S.Motion Interval
ValueOf (a_of i) = S.Motion Interval
ValueOf (b_of i) = S.Force Interval
ValueOf (f_of i) = S.Force Interval
ValueOf (t_of i) = List Interval
ValueOf (T_of c) = Interval
ValueOf (I_of i) = S.Inertia Interval
ValueOf (H_of k l) = Interval
ValueOf (packed_of c d) = Interval
ValueOf (w_of c) = Interval
ValueOf (z_of c) = Interval
ValueOf (x_of c) = Interval
ValueOf (IA_of i) = S.Inertia Interval
ValueOf (p_of i) = S.Force Interval
ValueOf (U_of c) = S.Force Interval
ValueOf (u_of c) = Interval
ValueOf (Ia_of i) = S.Inertia Interval
ValueOf (pa_of i) = S.Force Interval
ValueOf (O_of i) = Table Interval
ValueOf (K_of r) = List (S.Force Interval)
ValueOf (J_of r c) = Interval
ValueOf (g_of r) = Interval
ValueOf (Y_of r c) = Interval
ValueOf (Z_of r c) = Interval
ValueOf (pair_of r s) = Interval
ValueOf (e_of r) = Interval
ValueOf (lam_of r) = Interval
ValueOf (k_of c) = Interval
ValueOf (y_of c) = Interval

-- what a work holds there
abbrev pub look : (n : Place) → View → ValueOf n
look (q_of i) w = V.q_at w i
look (X_of i) w = V.X_at w i
look (s_of i) w = V.s_at w i
look (v_of i) w = V.v_at w i
look (c_of i) w = V.c_at w i
look (a_of i) w = V.a_at w i
look (b_of i) w = V.b_at w i
look (f_of i) w = V.f_at w i
look (t_of i) w = V.t_at w i
look (T_of c) w = V.T_at w c
look (I_of i) w = V.I_at w i
look (H_of k l) w = V.H_at w k l
look (packed_of c d) w = V.packed_at w c d
look (w_of c) w = V.w_at w c
look (z_of c) w = V.z_at w c
look (x_of c) w = V.x_at w c
look (IA_of i) w = V.IA_at w i
look (p_of i) w = V.p_at w i
look (U_of c) w = V.U_at w c
look (u_of c) w = V.u_at w c
look (Ia_of i) w = V.Ia_at w i
look (pa_of i) w = V.pa_at w i
look (O_of i) w = V.O_at w i
look (K_of r) w = V.K_at w r
look (J_of r c) w = V.J_at w r c
look (g_of r) w = V.g_at w r
look (Y_of r c) w = V.Y_at w r c
look (Z_of r c) w = V.Z_at w r c
look (pair_of r s) w = V.pair_at w r s
look (e_of r) w = V.e_at w r
look (lam_of r) w = V.lam_at w r
look (k_of c) w = V.k_at w c
look (y_of c) w = V.y_at w c

-- the work that holds this there, and all else as it is
abbrev pub put : (n : Place) → ValueOf n → View → View
put (q_of i) x w = record w { q = slice_set w.q i x }
put (X_of i) x w = record w { X = slice_set w.X i x }
put (s_of i) x w = record w { s = slice_set w.s i x }
put (v_of i) x w = record w { v = slice_set w.v i x }
put (c_of i) x w = record w { c = slice_set w.c i x }
put (a_of i) x w = record w { a = slice_set w.a i x }
put (b_of i) x w = record w { b = slice_set w.b i x }
put (f_of i) x w = record w { f = slice_set w.f i x }
put (t_of i) x w = record w { t = slice_set w.t i x }
put (T_of c) x w = record w { T = slice_set w.T c x }
put (I_of i) x w = record w { I = slice_set w.I i x }
put (H_of k l) x w = record w { H = slice_set w.H (full_place w k l) x }
put (packed_of c d) x w = record w { packed = slice_set w.packed (packed_place w.up c d) x }
put (w_of c) x w = record w { w = slice_set w.w c x }
put (z_of c) x w = record w { z = slice_set w.z c x }
put (x_of c) x w = record w { x = slice_set w.x c x }
put (IA_of i) x w = record w { IA = slice_set w.IA i x }
put (p_of i) x w = record w { p = slice_set w.p i x }
put (U_of c) x w = record w { U = slice_set w.U c x }
put (u_of c) x w = record w { u = slice_set w.u c x }
put (Ia_of i) x w = record w { Ia = slice_set w.Ia i x }
put (pa_of i) x w = record w { pa = slice_set w.pa i x }
put (O_of i) x w = record w { O = slice_set w.O i x }
put (K_of r) x w = record w { K = slice_set w.K r x }
put (J_of r c) x w = record w { J = slice_set w.J (column_place w r c) x }
put (g_of r) x w = record w { g = slice_set w.g r x }
put (Y_of r c) x w = record w { Y = slice_set w.Y (column_place w r c) x }
put (Z_of r c) x w = record w { Z = slice_set w.Z (column_place w r c) x }
put (pair_of r s) x w = record w { pairs = slice_set w.pairs (row_place w r s) x }
put (e_of r) x w = record w { e = slice_set w.e r x }
put (lam_of r) x w = record w { lam = slice_set w.lam r x }
put (k_of c) x w = record w { k = slice_set w.k c x }
put (y_of c) x w = record w { y = slice_set w.y c x }

-- the rule of each name, whose value is at the place
abbrev pub Rule : Type 0
Rule = (n : Place) → View → Result (ValueOf n) RowFault

-- the names of a call: their rules, and the order in which they are found
abbrev pub names : Rule → List Place → Naming View RowFault
names rule order = record { Name = Place; Value = ValueOf; rule = rule; look = look; put = put; order = order }
