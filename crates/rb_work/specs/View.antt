-- The values that a work holds, as the contracts see them.
use Rattle.std.specs.Prelude.{◌≡◌, ℕ, ◌+◌, ◌*◌, ◌≤◌, List, length, replicate, slice_index_or, max, min, if◌then◌else◌}
use Rattle.rb_num.specs.Interval.{Interval, zero_interval}
use Rattle.rb_frac.specs.Tables.{Table}
use Rattle.rb_frac.specs.Spatial.{Motion, Force, Place, Inertia}
use Rattle.rb_work.specs.Zeros.{zero_entries, zero_columns, zero_motion, zero_force, zero_forces, zero_table, zero_place, zero_inertia}
use Rattle.rb_work.specs.Path.{Ascends, is_on, packed_length, packed_place}

-- what a work is made for: so many bodies and full columns, the column above each column or 0, and so many rows
pub record Extent : Type 0 where
  pub bodies : ℕ
  pub full : ℕ
  pub up : List ℕ
  pub rows : ℕ

-- at most 256 bodies, 64 full columns and 64 rows, no more columns than full ones, and each above another has a smaller number
pub record IsExtent (e : Extent) : Type 0 where
  pub few_bodies : e.bodies ≤ 256
  pub few_full : e.full ≤ 64
  pub few_columns : length e.up ≤ e.full
  pub few_rows : e.rows ≤ 64
  pub ascends : Ascends e.up

-- what it is made for, and a table for each name. M, D and L have one table, and so have G, C and l.
pub record View : Type 0 where
  pub bodies : ℕ
  pub full : ℕ
  pub up : List ℕ
  pub rows : ℕ
  pub q : List (List Interval)
  pub X : List (Place Interval)
  pub s : List (List Interval)
  pub v : List (Motion Interval)
  pub c : List (Motion Interval)
  pub a : List (Motion Interval)
  pub b : List (Force Interval)
  pub f : List (Force Interval)
  pub t : List (List Interval)
  pub T : List Interval
  pub I : List (Inertia Interval)
  pub H : List Interval
  pub packed : List Interval
  pub w : List Interval
  pub z : List Interval
  pub x : List Interval
  pub IA : List (Inertia Interval)
  pub p : List (Force Interval)
  pub U : List (Force Interval)
  pub u : List Interval
  pub Ia : List (Inertia Interval)
  pub pa : List (Force Interval)
  pub O : List (Table Interval)
  pub K : List (List (Force Interval))
  pub J : List Interval
  pub g : List Interval
  pub Y : List Interval
  pub Z : List Interval
  pub pairs : List Interval
  pub e : List Interval
  pub lam : List Interval
  pub k : List Interval
  pub y : List Interval

abbrev pub extent_of : View → Extent
extent_of w = record { bodies = w.bodies; full = w.full; up = w.up; rows = w.rows }

-- how many columns there are
abbrev pub columns_of : View → ℕ
columns_of w = length w.up

-- each table of bodies, columns or rows has a place for each of them and one for 0; a table of two numbers has one for each two
pub record IsSized (view : View) : Type 0 where
  pub extent : IsExtent (extent_of view)
  pub q : length view.q ≡ view.bodies + 1
  pub X : length view.X ≡ view.bodies + 1
  pub s : length view.s ≡ view.bodies + 1
  pub v : length view.v ≡ view.bodies + 1
  pub c : length view.c ≡ view.bodies + 1
  pub a : length view.a ≡ view.bodies + 1
  pub b : length view.b ≡ view.bodies + 1
  pub f : length view.f ≡ view.bodies + 1
  pub t : length view.t ≡ view.bodies + 1
  pub T : length view.T ≡ length view.up + 1
  pub I : length view.I ≡ view.bodies + 1
  pub H : length view.H ≡ (view.full + 1) * (view.full + 1)
  pub packed : length view.packed ≡ packed_length view.up
  pub w : length view.w ≡ length view.up + 1
  pub z : length view.z ≡ length view.up + 1
  pub x : length view.x ≡ length view.up + 1
  pub IA : length view.IA ≡ view.bodies + 1
  pub p : length view.p ≡ view.bodies + 1
  pub U : length view.U ≡ length view.up + 1
  pub u : length view.u ≡ length view.up + 1
  pub Ia : length view.Ia ≡ view.bodies + 1
  pub pa : length view.pa ≡ view.bodies + 1
  pub O : length view.O ≡ view.bodies + 1
  pub K : length view.K ≡ view.rows + 1
  pub J : length view.J ≡ (view.rows + 1) * (length view.up + 1)
  pub g : length view.g ≡ view.rows + 1
  pub Y : length view.Y ≡ (view.rows + 1) * (length view.up + 1)
  pub Z : length view.Z ≡ (view.rows + 1) * (length view.up + 1)
  pub pairs : length view.pairs ≡ (view.rows + 1) * (view.rows + 1)
  pub e : length view.e ≡ view.rows + 1
  pub lam : length view.lam ≡ view.rows + 1
  pub k : length view.k ≡ length view.up + 1
  pub y : length view.y ≡ length view.up + 1

-- where the value of full columns k and l stands, that of a row and a column, and that of two rows
abbrev pub full_place : View → ℕ → ℕ → ℕ
full_place w k l = k * (w.full + 1) + l

abbrev pub column_place : View → ℕ → ℕ → ℕ
column_place w r c = r * (length w.up + 1) + c

abbrev pub row_place : View → ℕ → ℕ → ℕ
row_place w r s = r * (w.rows + 1) + s

abbrev pub q_at : View → ℕ → List Interval
q_at w i = slice_index_or w.q i zero_entries

abbrev pub X_at : View → ℕ → Place Interval
X_at w i = slice_index_or w.X i zero_place

abbrev pub s_at : View → ℕ → List Interval
s_at w i = slice_index_or w.s i zero_columns

abbrev pub v_at : View → ℕ → Motion Interval
v_at w i = slice_index_or w.v i zero_motion

abbrev pub c_at : View → ℕ → Motion Interval
c_at w i = slice_index_or w.c i zero_motion

abbrev pub a_at : View → ℕ → Motion Interval
a_at w i = slice_index_or w.a i zero_motion

abbrev pub b_at : View → ℕ → Force Interval
b_at w i = slice_index_or w.b i zero_force

abbrev pub f_at : View → ℕ → Force Interval
f_at w i = slice_index_or w.f i zero_force

abbrev pub t_at : View → ℕ → List Interval
t_at w i = slice_index_or w.t i zero_columns

abbrev pub T_at : View → ℕ → Interval
T_at w c = slice_index_or w.T c zero_interval

abbrev pub I_at : View → ℕ → Inertia Interval
I_at w i = slice_index_or w.I i zero_inertia

abbrev pub H_at : View → ℕ → ℕ → Interval
H_at w k l = slice_index_or w.H (full_place w k l) zero_interval

abbrev pub packed_at : View → ℕ → ℕ → Interval
packed_at w c d = slice_index_or w.packed (packed_place w.up c d) zero_interval

-- the numbers in either order
abbrev pub M_at : View → ℕ → ℕ → Interval
M_at w c d = packed_at w (max c d) (min c d)

-- 0 where there is no such pair
abbrev pub mass_at : View → ℕ → ℕ → Interval
mass_at w c d = if is_on w.up (max c d) (min c d) then M_at w c d else zero_interval

abbrev pub D_at : View → ℕ → Interval
D_at w c = packed_at w c c

abbrev pub L_at : View → ℕ → ℕ → Interval
L_at w c d = packed_at w c d

abbrev pub w_at : View → ℕ → Interval
w_at w c = slice_index_or w.w c zero_interval

abbrev pub z_at : View → ℕ → Interval
z_at w c = slice_index_or w.z c zero_interval

abbrev pub x_at : View → ℕ → Interval
x_at w c = slice_index_or w.x c zero_interval

abbrev pub IA_at : View → ℕ → Inertia Interval
IA_at w i = slice_index_or w.IA i zero_inertia

abbrev pub p_at : View → ℕ → Force Interval
p_at w i = slice_index_or w.p i zero_force

abbrev pub U_at : View → ℕ → Force Interval
U_at w c = slice_index_or w.U c zero_force

abbrev pub u_at : View → ℕ → Interval
u_at w c = slice_index_or w.u c zero_interval

abbrev pub Ia_at : View → ℕ → Inertia Interval
Ia_at w i = slice_index_or w.Ia i zero_inertia

abbrev pub pa_at : View → ℕ → Force Interval
pa_at w i = slice_index_or w.pa i zero_force

abbrev pub O_at : View → ℕ → Table Interval
O_at w i = slice_index_or w.O i zero_table

abbrev pub K_at : View → ℕ → List (Force Interval)
K_at w r = slice_index_or w.K r zero_forces

abbrev pub J_at : View → ℕ → ℕ → Interval
J_at w r c = slice_index_or w.J (column_place w r c) zero_interval

abbrev pub g_at : View → ℕ → Interval
g_at w r = slice_index_or w.g r zero_interval

abbrev pub Y_at : View → ℕ → ℕ → Interval
Y_at w r c = slice_index_or w.Y (column_place w r c) zero_interval

abbrev pub Z_at : View → ℕ → ℕ → Interval
Z_at w r c = slice_index_or w.Z (column_place w r c) zero_interval

abbrev pub pair_at : View → ℕ → ℕ → Interval
pair_at w r s = slice_index_or w.pairs (row_place w r s) zero_interval

abbrev pub G_at : View → ℕ → ℕ → Interval
G_at w r s = pair_at w r s

abbrev pub C_at : View → ℕ → Interval
C_at w r = pair_at w r r

abbrev pub l_at : View → ℕ → ℕ → Interval
l_at w s r = pair_at w s r

abbrev pub e_at : View → ℕ → Interval
e_at w r = slice_index_or w.e r zero_interval

abbrev pub lam_at : View → ℕ → Interval
lam_at w r = slice_index_or w.lam r zero_interval

abbrev pub k_at : View → ℕ → Interval
k_at w c = slice_index_or w.k c zero_interval

abbrev pub y_at : View → ℕ → Interval
y_at w c = slice_index_or w.y c zero_interval

-- zeros throughout
abbrev pub blank_of : Extent → View
blank_of e = record {
  bodies = e.bodies;
  full = e.full;
  up = e.up;
  rows = e.rows;
  q = replicate (e.bodies + 1) zero_entries;
  X = replicate (e.bodies + 1) zero_place;
  s = replicate (e.bodies + 1) zero_columns;
  v = replicate (e.bodies + 1) zero_motion;
  c = replicate (e.bodies + 1) zero_motion;
  a = replicate (e.bodies + 1) zero_motion;
  b = replicate (e.bodies + 1) zero_force;
  f = replicate (e.bodies + 1) zero_force;
  t = replicate (e.bodies + 1) zero_columns;
  T = replicate (length e.up + 1) zero_interval;
  I = replicate (e.bodies + 1) zero_inertia;
  H = replicate ((e.full + 1) * (e.full + 1)) zero_interval;
  packed = replicate (packed_length e.up) zero_interval;
  w = replicate (length e.up + 1) zero_interval;
  z = replicate (length e.up + 1) zero_interval;
  x = replicate (length e.up + 1) zero_interval;
  IA = replicate (e.bodies + 1) zero_inertia;
  p = replicate (e.bodies + 1) zero_force;
  U = replicate (length e.up + 1) zero_force;
  u = replicate (length e.up + 1) zero_interval;
  Ia = replicate (e.bodies + 1) zero_inertia;
  pa = replicate (e.bodies + 1) zero_force;
  O = replicate (e.bodies + 1) zero_table;
  K = replicate (e.rows + 1) zero_forces;
  J = replicate ((e.rows + 1) * (length e.up + 1)) zero_interval;
  g = replicate (e.rows + 1) zero_interval;
  Y = replicate ((e.rows + 1) * (length e.up + 1)) zero_interval;
  Z = replicate ((e.rows + 1) * (length e.up + 1)) zero_interval;
  pairs = replicate ((e.rows + 1) * (e.rows + 1)) zero_interval;
  e = replicate (e.rows + 1) zero_interval;
  lam = replicate (e.rows + 1) zero_interval;
  k = replicate (length e.up + 1) zero_interval;
  y = replicate (length e.up + 1) zero_interval;
}
