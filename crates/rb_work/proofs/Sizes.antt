-- The lengths of the tables of a work.
use Rattle.std.proofs.Common.{◌≡◌, ℕ, ◌+◌, ◌*◌, List, length, set, length-set, ap, sym, ◌∙◌, subst}
use Rattle.std.proofs.lemmas.List.{length-replicate}
use Rattle.rb_num.specs.Interval.{Interval, zero_interval}
use Rattle.rb_frac.specs.Tables.{Table}
use Rattle.rb_frac.specs.Spatial.{Motion, Force, Place, Inertia}
use Rattle.rb_work.specs.Zeros.{zero_entries, zero_columns, zero_motion, zero_force, zero_forces, zero_table, zero_place, zero_inertia}
use Rattle.rb_work.specs.Path.{packed_length}
use Rattle.rb_work.specs.View.{Extent, IsExtent, View, extent_of, IsSized, blank_of}

-- what a work is made for, and the length of each table
pub record Sizes : Type 0 where
  pub extent : Extent
  pub q : ℕ
  pub X : ℕ
  pub s : ℕ
  pub v : ℕ
  pub c : ℕ
  pub a : ℕ
  pub b : ℕ
  pub f : ℕ
  pub t : ℕ
  pub T : ℕ
  pub I : ℕ
  pub H : ℕ
  pub packed : ℕ
  pub w : ℕ
  pub z : ℕ
  pub x : ℕ
  pub IA : ℕ
  pub p : ℕ
  pub U : ℕ
  pub u : ℕ
  pub Ia : ℕ
  pub pa : ℕ
  pub O : ℕ
  pub K : ℕ
  pub J : ℕ
  pub g : ℕ
  pub Y : ℕ
  pub Z : ℕ
  pub pairs : ℕ
  pub e : ℕ
  pub lam : ℕ
  pub k : ℕ
  pub y : ℕ

abbrev pub sizes_of : View → Sizes
sizes_of w = record {
  extent = extent_of w;
  q = length w.q;
  X = length w.X;
  s = length w.s;
  v = length w.v;
  c = length w.c;
  a = length w.a;
  b = length w.b;
  f = length w.f;
  t = length w.t;
  T = length w.T;
  I = length w.I;
  H = length w.H;
  packed = length w.packed;
  w = length w.w;
  z = length w.z;
  x = length w.x;
  IA = length w.IA;
  p = length w.p;
  U = length w.U;
  u = length w.u;
  Ia = length w.Ia;
  pa = length w.pa;
  O = length w.O;
  K = length w.K;
  J = length w.J;
  g = length w.g;
  Y = length w.Y;
  Z = length w.Z;
  pairs = length w.pairs;
  e = length w.e;
  lam = length w.lam;
  k = length w.k;
  y = length w.y;
}

-- the lengths of a work that is made for this
abbrev pub sizes_for : Extent → Sizes
sizes_for e = record {
  extent = e;
  q = e.bodies + 1;
  X = e.bodies + 1;
  s = e.bodies + 1;
  v = e.bodies + 1;
  c = e.bodies + 1;
  a = e.bodies + 1;
  b = e.bodies + 1;
  f = e.bodies + 1;
  t = e.bodies + 1;
  T = length e.up + 1;
  I = e.bodies + 1;
  H = (e.full + 1) * (e.full + 1);
  packed = packed_length e.up;
  w = length e.up + 1;
  z = length e.up + 1;
  x = length e.up + 1;
  IA = e.bodies + 1;
  p = e.bodies + 1;
  U = length e.up + 1;
  u = length e.up + 1;
  Ia = e.bodies + 1;
  pa = e.bodies + 1;
  O = e.bodies + 1;
  K = e.rows + 1;
  J = (e.rows + 1) * (length e.up + 1);
  g = e.rows + 1;
  Y = (e.rows + 1) * (length e.up + 1);
  Z = (e.rows + 1) * (length e.up + 1);
  pairs = (e.rows + 1) * (e.rows + 1);
  e = e.rows + 1;
  lam = e.rows + 1;
  k = length e.up + 1;
  y = length e.up + 1;
}

pub sized_for : (w : View) → IsSized w → sizes_of w ≡ sizes_for (extent_of w)
sized_for w h = λ i. record {
  extent = extent_of w;
  q = h.q i;
  X = h.X i;
  s = h.s i;
  v = h.v i;
  c = h.c i;
  a = h.a i;
  b = h.b i;
  f = h.f i;
  t = h.t i;
  T = h.T i;
  I = h.I i;
  H = h.H i;
  packed = h.packed i;
  w = h.w i;
  z = h.z i;
  x = h.x i;
  IA = h.IA i;
  p = h.p i;
  U = h.U i;
  u = h.u i;
  Ia = h.Ia i;
  pa = h.pa i;
  O = h.O i;
  K = h.K i;
  J = h.J i;
  g = h.g i;
  Y = h.Y i;
  Z = h.Z i;
  pairs = h.pairs i;
  e = h.e i;
  lam = h.lam i;
  k = h.k i;
  y = h.y i;
}

pub room_for : (w : View) (e : Extent) → IsSized w → extent_of w ≡ e → sizes_of w ≡ sizes_for e
room_for w e h is = sized_for w h ∙ ap sizes_for is

pub blank_for : (e : Extent) → sizes_of (blank_of e) ≡ sizes_for e
blank_for e = λ i. record {
  extent = e;
  q = length-replicate (e.bodies + 1) zero_entries i;
  X = length-replicate (e.bodies + 1) zero_place i;
  s = length-replicate (e.bodies + 1) zero_columns i;
  v = length-replicate (e.bodies + 1) zero_motion i;
  c = length-replicate (e.bodies + 1) zero_motion i;
  a = length-replicate (e.bodies + 1) zero_motion i;
  b = length-replicate (e.bodies + 1) zero_force i;
  f = length-replicate (e.bodies + 1) zero_force i;
  t = length-replicate (e.bodies + 1) zero_columns i;
  T = length-replicate (length e.up + 1) zero_interval i;
  I = length-replicate (e.bodies + 1) zero_inertia i;
  H = length-replicate ((e.full + 1) * (e.full + 1)) zero_interval i;
  packed = length-replicate (packed_length e.up) zero_interval i;
  w = length-replicate (length e.up + 1) zero_interval i;
  z = length-replicate (length e.up + 1) zero_interval i;
  x = length-replicate (length e.up + 1) zero_interval i;
  IA = length-replicate (e.bodies + 1) zero_inertia i;
  p = length-replicate (e.bodies + 1) zero_force i;
  U = length-replicate (length e.up + 1) zero_force i;
  u = length-replicate (length e.up + 1) zero_interval i;
  Ia = length-replicate (e.bodies + 1) zero_inertia i;
  pa = length-replicate (e.bodies + 1) zero_force i;
  O = length-replicate (e.bodies + 1) zero_table i;
  K = length-replicate (e.rows + 1) zero_forces i;
  J = length-replicate ((e.rows + 1) * (length e.up + 1)) zero_interval i;
  g = length-replicate (e.rows + 1) zero_interval i;
  Y = length-replicate ((e.rows + 1) * (length e.up + 1)) zero_interval i;
  Z = length-replicate ((e.rows + 1) * (length e.up + 1)) zero_interval i;
  pairs = length-replicate ((e.rows + 1) * (e.rows + 1)) zero_interval i;
  e = length-replicate (e.rows + 1) zero_interval i;
  lam = length-replicate (e.rows + 1) zero_interval i;
  k = length-replicate (length e.up + 1) zero_interval i;
  y = length-replicate (length e.up + 1) zero_interval i;
}

blank_sized : (e : Extent) → IsExtent e → IsSized (blank_of e)
blank_sized e h = record {
  extent = h;
  q = length-replicate (e.bodies + 1) zero_entries;
  X = length-replicate (e.bodies + 1) zero_place;
  s = length-replicate (e.bodies + 1) zero_columns;
  v = length-replicate (e.bodies + 1) zero_motion;
  c = length-replicate (e.bodies + 1) zero_motion;
  a = length-replicate (e.bodies + 1) zero_motion;
  b = length-replicate (e.bodies + 1) zero_force;
  f = length-replicate (e.bodies + 1) zero_force;
  t = length-replicate (e.bodies + 1) zero_columns;
  T = length-replicate (length e.up + 1) zero_interval;
  I = length-replicate (e.bodies + 1) zero_inertia;
  H = length-replicate ((e.full + 1) * (e.full + 1)) zero_interval;
  packed = length-replicate (packed_length e.up) zero_interval;
  w = length-replicate (length e.up + 1) zero_interval;
  z = length-replicate (length e.up + 1) zero_interval;
  x = length-replicate (length e.up + 1) zero_interval;
  IA = length-replicate (e.bodies + 1) zero_inertia;
  p = length-replicate (e.bodies + 1) zero_force;
  U = length-replicate (length e.up + 1) zero_force;
  u = length-replicate (length e.up + 1) zero_interval;
  Ia = length-replicate (e.bodies + 1) zero_inertia;
  pa = length-replicate (e.bodies + 1) zero_force;
  O = length-replicate (e.bodies + 1) zero_table;
  K = length-replicate (e.rows + 1) zero_forces;
  J = length-replicate ((e.rows + 1) * (length e.up + 1)) zero_interval;
  g = length-replicate (e.rows + 1) zero_interval;
  Y = length-replicate ((e.rows + 1) * (length e.up + 1)) zero_interval;
  Z = length-replicate ((e.rows + 1) * (length e.up + 1)) zero_interval;
  pairs = length-replicate ((e.rows + 1) * (e.rows + 1)) zero_interval;
  e = length-replicate (e.rows + 1) zero_interval;
  lam = length-replicate (e.rows + 1) zero_interval;
  k = length-replicate (length e.up + 1) zero_interval;
  y = length-replicate (length e.up + 1) zero_interval;
}

pub sized_new : (w : View) (e : Extent) → w ≡ blank_of e → IsExtent e → IsSized w
sized_new w e is h = subst (λ v. IsSized v) (sym is) (blank_sized e h)

-- a table that is written to stays as long
pub sizes_q : (w : View) (i : ℕ) (value : List Interval) → sizes_of (record w { q = set w.q i value }) ≡ sizes_of w
sizes_q w i value = ap (λ n. record (sizes_of w) { q = n }) (length-set w.q i value)

pub sizes_X : (w : View) (i : ℕ) (value : Place Interval) → sizes_of (record w { X = set w.X i value }) ≡ sizes_of w
sizes_X w i value = ap (λ n. record (sizes_of w) { X = n }) (length-set w.X i value)

pub sizes_s : (w : View) (i : ℕ) (value : List Interval) → sizes_of (record w { s = set w.s i value }) ≡ sizes_of w
sizes_s w i value = ap (λ n. record (sizes_of w) { s = n }) (length-set w.s i value)

pub sizes_v : (w : View) (i : ℕ) (value : Motion Interval) → sizes_of (record w { v = set w.v i value }) ≡ sizes_of w
sizes_v w i value = ap (λ n. record (sizes_of w) { v = n }) (length-set w.v i value)

pub sizes_c : (w : View) (i : ℕ) (value : Motion Interval) → sizes_of (record w { c = set w.c i value }) ≡ sizes_of w
sizes_c w i value = ap (λ n. record (sizes_of w) { c = n }) (length-set w.c i value)

pub sizes_a : (w : View) (i : ℕ) (value : Motion Interval) → sizes_of (record w { a = set w.a i value }) ≡ sizes_of w
sizes_a w i value = ap (λ n. record (sizes_of w) { a = n }) (length-set w.a i value)

pub sizes_b : (w : View) (i : ℕ) (value : Force Interval) → sizes_of (record w { b = set w.b i value }) ≡ sizes_of w
sizes_b w i value = ap (λ n. record (sizes_of w) { b = n }) (length-set w.b i value)

pub sizes_f : (w : View) (i : ℕ) (value : Force Interval) → sizes_of (record w { f = set w.f i value }) ≡ sizes_of w
sizes_f w i value = ap (λ n. record (sizes_of w) { f = n }) (length-set w.f i value)

pub sizes_t : (w : View) (i : ℕ) (value : List Interval) → sizes_of (record w { t = set w.t i value }) ≡ sizes_of w
sizes_t w i value = ap (λ n. record (sizes_of w) { t = n }) (length-set w.t i value)

pub sizes_T : (w : View) (i : ℕ) (value : Interval) → sizes_of (record w { T = set w.T i value }) ≡ sizes_of w
sizes_T w i value = ap (λ n. record (sizes_of w) { T = n }) (length-set w.T i value)

pub sizes_I : (w : View) (i : ℕ) (value : Inertia Interval) → sizes_of (record w { I = set w.I i value }) ≡ sizes_of w
sizes_I w i value = ap (λ n. record (sizes_of w) { I = n }) (length-set w.I i value)

pub sizes_H : (w : View) (i : ℕ) (value : Interval) → sizes_of (record w { H = set w.H i value }) ≡ sizes_of w
sizes_H w i value = ap (λ n. record (sizes_of w) { H = n }) (length-set w.H i value)

pub sizes_packed : (w : View) (i : ℕ) (value : Interval) → sizes_of (record w { packed = set w.packed i value }) ≡ sizes_of w
sizes_packed w i value = ap (λ n. record (sizes_of w) { packed = n }) (length-set w.packed i value)

pub sizes_w : (w : View) (i : ℕ) (value : Interval) → sizes_of (record w { w = set w.w i value }) ≡ sizes_of w
sizes_w w i value = ap (λ n. record (sizes_of w) { w = n }) (length-set w.w i value)

pub sizes_z : (w : View) (i : ℕ) (value : Interval) → sizes_of (record w { z = set w.z i value }) ≡ sizes_of w
sizes_z w i value = ap (λ n. record (sizes_of w) { z = n }) (length-set w.z i value)

pub sizes_x : (w : View) (i : ℕ) (value : Interval) → sizes_of (record w { x = set w.x i value }) ≡ sizes_of w
sizes_x w i value = ap (λ n. record (sizes_of w) { x = n }) (length-set w.x i value)

pub sizes_IA : (w : View) (i : ℕ) (value : Inertia Interval) → sizes_of (record w { IA = set w.IA i value }) ≡ sizes_of w
sizes_IA w i value = ap (λ n. record (sizes_of w) { IA = n }) (length-set w.IA i value)

pub sizes_p : (w : View) (i : ℕ) (value : Force Interval) → sizes_of (record w { p = set w.p i value }) ≡ sizes_of w
sizes_p w i value = ap (λ n. record (sizes_of w) { p = n }) (length-set w.p i value)

pub sizes_U : (w : View) (i : ℕ) (value : Force Interval) → sizes_of (record w { U = set w.U i value }) ≡ sizes_of w
sizes_U w i value = ap (λ n. record (sizes_of w) { U = n }) (length-set w.U i value)

pub sizes_u : (w : View) (i : ℕ) (value : Interval) → sizes_of (record w { u = set w.u i value }) ≡ sizes_of w
sizes_u w i value = ap (λ n. record (sizes_of w) { u = n }) (length-set w.u i value)

pub sizes_Ia : (w : View) (i : ℕ) (value : Inertia Interval) → sizes_of (record w { Ia = set w.Ia i value }) ≡ sizes_of w
sizes_Ia w i value = ap (λ n. record (sizes_of w) { Ia = n }) (length-set w.Ia i value)

pub sizes_pa : (w : View) (i : ℕ) (value : Force Interval) → sizes_of (record w { pa = set w.pa i value }) ≡ sizes_of w
sizes_pa w i value = ap (λ n. record (sizes_of w) { pa = n }) (length-set w.pa i value)

pub sizes_O : (w : View) (i : ℕ) (value : Table Interval) → sizes_of (record w { O = set w.O i value }) ≡ sizes_of w
sizes_O w i value = ap (λ n. record (sizes_of w) { O = n }) (length-set w.O i value)

pub sizes_K : (w : View) (i : ℕ) (value : List (Force Interval)) → sizes_of (record w { K = set w.K i value }) ≡ sizes_of w
sizes_K w i value = ap (λ n. record (sizes_of w) { K = n }) (length-set w.K i value)

pub sizes_J : (w : View) (i : ℕ) (value : Interval) → sizes_of (record w { J = set w.J i value }) ≡ sizes_of w
sizes_J w i value = ap (λ n. record (sizes_of w) { J = n }) (length-set w.J i value)

pub sizes_g : (w : View) (i : ℕ) (value : Interval) → sizes_of (record w { g = set w.g i value }) ≡ sizes_of w
sizes_g w i value = ap (λ n. record (sizes_of w) { g = n }) (length-set w.g i value)

pub sizes_Y : (w : View) (i : ℕ) (value : Interval) → sizes_of (record w { Y = set w.Y i value }) ≡ sizes_of w
sizes_Y w i value = ap (λ n. record (sizes_of w) { Y = n }) (length-set w.Y i value)

pub sizes_Z : (w : View) (i : ℕ) (value : Interval) → sizes_of (record w { Z = set w.Z i value }) ≡ sizes_of w
sizes_Z w i value = ap (λ n. record (sizes_of w) { Z = n }) (length-set w.Z i value)

pub sizes_pairs : (w : View) (i : ℕ) (value : Interval) → sizes_of (record w { pairs = set w.pairs i value }) ≡ sizes_of w
sizes_pairs w i value = ap (λ n. record (sizes_of w) { pairs = n }) (length-set w.pairs i value)

pub sizes_e : (w : View) (i : ℕ) (value : Interval) → sizes_of (record w { e = set w.e i value }) ≡ sizes_of w
sizes_e w i value = ap (λ n. record (sizes_of w) { e = n }) (length-set w.e i value)

pub sizes_lam : (w : View) (i : ℕ) (value : Interval) → sizes_of (record w { lam = set w.lam i value }) ≡ sizes_of w
sizes_lam w i value = ap (λ n. record (sizes_of w) { lam = n }) (length-set w.lam i value)

pub sizes_k : (w : View) (i : ℕ) (value : Interval) → sizes_of (record w { k = set w.k i value }) ≡ sizes_of w
sizes_k w i value = ap (λ n. record (sizes_of w) { k = n }) (length-set w.k i value)

pub sizes_y : (w : View) (i : ℕ) (value : Interval) → sizes_of (record w { y = set w.y i value }) ≡ sizes_of w
sizes_y w i value = ap (λ n. record (sizes_of w) { y = n }) (length-set w.y i value)
