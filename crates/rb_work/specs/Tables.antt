-- The tables of a new work.
use Rattle.std.specs.Prelude.{◌≡◌, ℕ, ◌+◌, ◌*◌, replicate}
use Rattle.rb_num.specs.Interval.{zero_interval}
use Rattle.rb_work.specs.Zeros.{zero_entries, zero_columns, zero_motion, zero_force, zero_forces, zero_table, zero_place, zero_inertia}
use Rattle.rb_work.specs.declared.tables.BodyTables.{BodyTables}
use Rattle.rb_work.specs.declared.tables.ColumnTables.{ColumnTables}
use Rattle.rb_work.specs.declared.tables.RowTables.{RowTables}

pub record AreBlankBodies (bodies : ℕ) (of : BodyTables) : Type 0 where
  pub q : of.q.items ≡ replicate (bodies + 1) zero_entries
  pub X : of.X.items ≡ replicate (bodies + 1) zero_place
  pub s : of.s.items ≡ replicate (bodies + 1) zero_columns
  pub v : of.v.items ≡ replicate (bodies + 1) zero_motion
  pub c : of.c.items ≡ replicate (bodies + 1) zero_motion
  pub a : of.a.items ≡ replicate (bodies + 1) zero_motion
  pub b : of.b.items ≡ replicate (bodies + 1) zero_force
  pub f : of.f.items ≡ replicate (bodies + 1) zero_force
  pub t : of.t.items ≡ replicate (bodies + 1) zero_columns
  pub I : of.I.items ≡ replicate (bodies + 1) zero_inertia
  pub IA : of.IA.items ≡ replicate (bodies + 1) zero_inertia
  pub p : of.p.items ≡ replicate (bodies + 1) zero_force
  pub Ia : of.Ia.items ≡ replicate (bodies + 1) zero_inertia
  pub pa : of.pa.items ≡ replicate (bodies + 1) zero_force
  pub O : of.O.items ≡ replicate (bodies + 1) zero_table

pub record AreBlankColumns (full columns count : ℕ) (of : ColumnTables) : Type 0 where
  pub T : of.T.items ≡ replicate (columns + 1) zero_interval
  pub H : of.H.items ≡ replicate ((full + 1) * (full + 1)) zero_interval
  pub packed : of.packed.items ≡ replicate count zero_interval
  pub w : of.w.items ≡ replicate (columns + 1) zero_interval
  pub z : of.z.items ≡ replicate (columns + 1) zero_interval
  pub x : of.x.items ≡ replicate (columns + 1) zero_interval
  pub U : of.U.items ≡ replicate (columns + 1) zero_force
  pub u : of.u.items ≡ replicate (columns + 1) zero_interval
  pub k : of.k.items ≡ replicate (columns + 1) zero_interval
  pub y : of.y.items ≡ replicate (columns + 1) zero_interval

pub record AreBlankRows (rows columns : ℕ) (of : RowTables) : Type 0 where
  pub K : of.K.items ≡ replicate (rows + 1) zero_forces
  pub J : of.J.items ≡ replicate ((rows + 1) * (columns + 1)) zero_interval
  pub g : of.g.items ≡ replicate (rows + 1) zero_interval
  pub Y : of.Y.items ≡ replicate ((rows + 1) * (columns + 1)) zero_interval
  pub Z : of.Z.items ≡ replicate ((rows + 1) * (columns + 1)) zero_interval
  pub pairs : of.pairs.items ≡ replicate ((rows + 1) * (rows + 1)) zero_interval
  pub e : of.e.items ≡ replicate (rows + 1) zero_interval
  pub lam : of.lam.items ≡ replicate (rows + 1) zero_interval
