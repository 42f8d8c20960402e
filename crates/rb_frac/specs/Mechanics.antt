-- Motions, forces and bodies by formulas of three-dimensional vectors, over any operations. Featherstone, Rigid Body Dynamics Algorithms,
-- chapter 2.
use Rattle.rb_frac.specs.Ops.{Ops, V3, signs, vadd, vneg, vscale, vdot, vcross}
use Rattle.rb_frac.specs.Tables.{Table, Symmetric, transpose, full, upper, identity, table_times, table_sum, table_scaled, outer}
use Rattle.rb_frac.specs.Spatial.{Spatial, Motion, Force, Place, BodyInertia}

module _ {A : Type 0} (o : Ops A) where
  -- ---- sums and multiples
  unfoldable pub plus : Spatial A → Spatial A → Spatial A
  plus a b = record { lin = vadd o a.lin b.lin; ang = vadd o a.ang b.ang }

  unfoldable pub scaled : A → Spatial A → Spatial A
  scaled k a = record { lin = vscale o k a.lin; ang = vscale o k a.ang }

  unfoldable pub opposite : Spatial A → Spatial A
  opposite a = record { lin = vneg o a.lin; ang = vneg o a.ang }

  -- k a + b
  abbrev pub combined : A → Spatial A → Spatial A → Spatial A
  combined k a b = plus (scaled k a) b

  -- ---- from frame to frame
  -- the parent's motion in the body: (E (lin + ang x r), E ang)
  unfoldable pub in_body : Place A → Motion A → Motion A
  in_body x m = record { lin = table_times o x.e (vadd o m.lin (vcross o m.ang x.r)); ang = table_times o x.e m.ang }

  -- the body's force in the parent: (E^T lin, E^T ang + r x E^T lin)
  unfoldable pub in_parent : Place A → Force A → Force A
  in_parent x f = record {
    lin = table_times o (transpose x.e) f.lin;
    ang = vadd o (table_times o (transpose x.e) f.ang) (vcross o x.r (table_times o (transpose x.e) f.lin));
  }

  -- ---- products
  -- how the motion b changes as it moves along with the motion a
  unfoldable pub motion_product : Motion A → Motion A → Motion A
  motion_product a b = record {
    lin = vadd o (vcross o a.ang b.lin) (vcross o a.lin b.ang);
    ang = vcross o a.ang b.ang;
  }

  -- how the force f changes as it moves along with the motion a
  unfoldable pub force_product : Motion A → Force A → Force A
  force_product a f = record {
    lin = vcross o a.ang f.lin;
    ang = vadd o (vcross o a.ang f.ang) (vcross o a.lin f.lin);
  }

  -- the power of the force at the motion
  unfoldable pub power_of : Motion A → Force A → A
  power_of m f = o.add (vdot o m.lin f.lin) (vdot o m.ang f.ang)

  -- ---- bodies
  -- the momentum at the motion: (m lin + ang x h, I ang + h x lin)
  unfoldable pub momentum : BodyInertia A → Motion A → Force A
  momentum i v = record {
    lin = vadd o (vscale o i.mass v.lin) (vcross o v.ang i.first);
    ang = vadd o (table_times o (full i.six) v.ang) (vcross o i.first v.lin);
  }

  -- m (c.c 1 - c c^T)
  unfoldable pub parallel_axes : A → V3 A → Table A
  parallel_axes m c =
      table_scaled o m (table_sum o (table_scaled o (vdot o c c) (identity (signs o))) (table_scaled o (o.neg o.one) (outer o c c)))

  unfoldable pub symmetric_sum : Symmetric A → Symmetric A → Symmetric A
  symmetric_sum s t = record {
    xx = o.add s.xx t.xx;
    xy = o.add s.xy t.xy;
    xz = o.add s.xz t.xz;
    yy = o.add s.yy t.yy;
    yz = o.add s.yz t.yz;
    zz = o.add s.zz t.zz;
  }

  unfoldable pub symmetric_scaled : A → Symmetric A → Symmetric A
  symmetric_scaled k s = record {
    xx = o.mul k s.xx;
    xy = o.mul k s.xy;
    xz = o.mul k s.xz;
    yy = o.mul k s.yy;
    yz = o.mul k s.yz;
    zz = o.mul k s.zz;
  }

  -- k i + j, in each of the ten numbers
  unfoldable pub combined_bodies : A → BodyInertia A → BodyInertia A → BodyInertia A
  combined_bodies k i j = record {
    mass = o.add (o.mul k i.mass) j.mass;
    first = vadd o (vscale o k i.first) j.first;
    six = symmetric_sum (symmetric_scaled k i.six) j.six;
  }

  -- the body of mass m, centre c and rotational inertia ic about the centre, taken about the origin: (m, m c, ic + m (c.c 1 - c c^T))
  unfoldable pub body_of : A → V3 A → Symmetric A → BodyInertia A
  body_of m c ic = record { mass = m; first = vscale o m c; six = symmetric_sum ic (upper (parallel_axes m c)) }

  -- Newton: F = m (aL + w x u + al x c + w x (w x c)), for the speed (u, w) and the spatial acceleration (aL, al)
  unfoldable pub newton : A → V3 A → Motion A → Motion A → V3 A
  newton m c v a =
      vscale o m
      (vadd o (vadd o (vadd o a.lin (vcross o v.ang v.lin)) (vcross o a.ang c)) (vcross o v.ang (vcross o v.ang c)))

  -- Euler: N = Ic al + w x (Ic w) + c x F
  unfoldable pub euler : A → V3 A → Symmetric A → Motion A → Motion A → V3 A
  euler m c ic v a =
      vadd o
      (vadd o (table_times o (full ic) a.ang) (vcross o v.ang (table_times o (full ic) v.ang)))
      (vcross o c (newton m c v a))

  -- what the body needs: the force and the moment
  unfoldable pub needed : A → V3 A → Symmetric A → Motion A → Motion A → Force A
  needed m c ic v a = record { lin = newton m c v a; ang = euler m c ic v a }
