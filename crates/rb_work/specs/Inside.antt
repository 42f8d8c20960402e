-- The fields of a work, and what the contracts see of them.
use Rattle.rb_work.specs.Path.{AreDepths, AreEnds}
use Rattle.rb_work.specs.View.{View, IsSized}
use Rattle.rb_work.specs.declared.work.Work.TheInside.{Inside}

abbrev pub view_of : Inside → View
view_of w = record {
  bodies = w.bodies;
  full = w.full;
  up = w.up.items;
  rows = w.rows;
  q = w.by_body.q.items;
  X = w.by_body.X.items;
  s = w.by_body.s.items;
  v = w.by_body.v.items;
  c = w.by_body.c.items;
  a = w.by_body.a.items;
  b = w.by_body.b.items;
  f = w.by_body.f.items;
  t = w.by_body.t.items;
  T = w.by_column.T.items;
  I = w.by_body.I.items;
  H = w.by_column.H.items;
  packed = w.by_column.packed.items;
  w = w.by_column.w.items;
  z = w.by_column.z.items;
  x = w.by_column.x.items;
  IA = w.by_body.IA.items;
  p = w.by_body.p.items;
  U = w.by_column.U.items;
  u = w.by_column.u.items;
  Ia = w.by_body.Ia.items;
  pa = w.by_body.pa.items;
  O = w.by_body.O.items;
  K = w.by_row.K.items;
  J = w.by_row.J.items;
  g = w.by_row.g.items;
  Y = w.by_row.Y.items;
  Z = w.by_row.Z.items;
  pairs = w.by_row.pairs.items;
  e = w.by_row.e.items;
  lam = w.by_row.lam.items;
  k = w.by_column.k.items;
  y = w.by_column.y.items;
}

pub record IsWork (w : Inside) : Type 0 where
  pub sized : IsSized (view_of w)
  pub depths : AreDepths w.up.items w.depths.items
  pub ends : AreEnds w.up.items w.ends.items
