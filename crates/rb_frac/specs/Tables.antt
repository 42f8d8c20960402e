-- Tables of three rows over any numbers: their entries, their products with vectors and with one another, and tables over two kinds of
-- numbers that are related entry by entry.
use Rattle.std.specs.Prelude.{ℕ, ◌==◌, if◌then◌else◌}
use Rattle.rb_frac.specs.Ops.{Ops, Signs, V3, vadd, vscale, vdot}

-- three rows
pub record Table (A : Type 0) : Type 0 where
  pub x : V3 A
  pub y : V3 A
  pub z : V3 A

-- the entries of a symmetric table, on and above the diagonal
pub record Symmetric (A : Type 0) : Type 0 where
  pub xx : A
  pub xy : A
  pub xz : A
  pub yy : A
  pub yz : A
  pub zz : A

-- ---- related entry by entry
pub record Vectors {A B : Type 0} (rel : A → B → Type 0) (u : V3 A) (v : V3 B) : Type 0 where
  pub x : rel u.x v.x
  pub y : rel u.y v.y
  pub z : rel u.z v.z

pub record Tables {A B : Type 0} (rel : A → B → Type 0) (s : Table A) (t : Table B) : Type 0 where
  pub x : Vectors rel s.x t.x
  pub y : Vectors rel s.y t.y
  pub z : Vectors rel s.z t.z

pub record Symmetrics {A B : Type 0} (rel : A → B → Type 0) (s : Symmetric A) (t : Symmetric B) : Type 0 where
  pub xx : rel s.xx t.xx
  pub xy : rel s.xy t.xy
  pub xz : rel s.xz t.xz
  pub yy : rel s.yy t.yy
  pub yz : rel s.yz t.yz
  pub zz : rel s.zz t.zz

-- ---- entries
abbrev pub vector : {A : Type 0} → A → A → A → V3 A
vector x y z = record { x = x; y = y; z = z }

-- component k of a vector, and row k of a table, from 0
abbrev pub component : {A : Type 0} → V3 A → ℕ → A
component v k = if k == 0 then v.x else (if k == 1 then v.y else v.z)

abbrev pub row : {A : Type 0} → Table A → ℕ → V3 A
row t k = if k == 0 then t.x else (if k == 1 then t.y else t.z)

abbrev pub transpose : {A : Type 0} → Table A → Table A
transpose t = record {
  x = record { x = t.x.x; y = t.y.x; z = t.z.x };
  y = record { x = t.x.y; y = t.y.y; z = t.z.y };
  z = record { x = t.x.z; y = t.y.z; z = t.z.z };
}

-- all nine entries
abbrev pub full : {A : Type 0} → Symmetric A → Table A
full s = record {
  x = record { x = s.xx; y = s.xy; z = s.xz };
  y = record { x = s.xy; y = s.yy; z = s.yz };
  z = record { x = s.xz; y = s.yz; z = s.zz };
}

-- the entries on and above the diagonal
abbrev pub upper : {A : Type 0} → Table A → Symmetric A
upper t = record { xx = t.x.x; xy = t.x.y; xz = t.x.z; yy = t.y.y; yz = t.y.z; zz = t.z.z }

-- ---- of negatives, zero and one
module _ {A : Type 0} (s : Signs A) where
  abbrev pub nothing : V3 A
  nothing = vector s.nul s.nul s.nul

  -- the vector along axis k, from 0
  abbrev pub unit : ℕ → V3 A
  unit k = if k == 0 then vector s.one s.nul s.nul else (if k == 1 then vector s.nul s.one s.nul else vector s.nul s.nul s.one)

  abbrev pub identity : Table A
  identity = record { x = vector s.one s.nul s.nul; y = vector s.nul s.one s.nul; z = vector s.nul s.nul s.one }

  -- the table of a x
  abbrev pub cross_table : V3 A → Table A
  cross_table a = record {
    x = vector s.nul (s.neg a.z) a.y;
    y = vector a.z s.nul (s.neg a.x);
    z = vector (s.neg a.y) a.x s.nul;
  }

-- ---- sums and products
module _ {A : Type 0} (o : Ops A) where
  -- T v
  unfoldable pub table_times : Table A → V3 A → V3 A
  table_times t v = vector (vdot o t.x v) (vdot o t.y v) (vdot o t.z v)

  -- S T
  unfoldable pub table_product : Table A → Table A → Table A
  table_product s t =
      let columns = transpose t in
      record {
        x = vector (vdot o s.x columns.x) (vdot o s.x columns.y) (vdot o s.x columns.z);
        y = vector (vdot o s.y columns.x) (vdot o s.y columns.y) (vdot o s.y columns.z);
        z = vector (vdot o s.z columns.x) (vdot o s.z columns.y) (vdot o s.z columns.z);
      }

  unfoldable pub table_sum : Table A → Table A → Table A
  table_sum s t = record { x = vadd o s.x t.x; y = vadd o s.y t.y; z = vadd o s.z t.z }

  unfoldable pub table_scaled : A → Table A → Table A
  table_scaled k t = record { x = vscale o k t.x; y = vscale o k t.y; z = vscale o k t.z }

  -- u v^T
  unfoldable pub outer : V3 A → V3 A → Table A
  outer u v = record { x = vscale o u.x v; y = vscale o u.y v; z = vscale o u.z v }

  -- R J R^T
  unfoldable pub congruent : Table A → Table A → Table A
  congruent r j = table_product r (table_product j (transpose r))
