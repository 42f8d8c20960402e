use Rattle.std.proofs.Common.{◌≡◌, replicate, ap, sym, ◌∙◌, subst}
use Rattle.rb_num.specs.Interval.{zero_interval}
use Rattle.rb_work.specs.Path.{AreDepths, AreEnds, packed_length}
use Rattle.rb_work.proofs.Sizes.{sized_new}
use Rattle.rb_work.proofs.PathLaws.{last_end}
use Rattle.rb_work.proofs.work.Work.new.Goals as goal

pub invariant_of-result : goal.invariant_of-result
invariant_of-result c =
    let up : c.in_ok-listed.listed.items ≡ c.args.up.now = c.in_ok-listed.ensures.items in
    let packed : replicate c.index.result.now zero_interval ≡ replicate (packed_length c.args.up.now) zero_interval =
    ap (λ n. replicate n zero_interval) (last_end _ _ c.in_ok-ends.ensures _ c.index.ensures) in
    record {
      sized = sized_new _ (record { bodies = c.args.bodies; full = c.args.full; up = c.args.up.now; rows = c.args.rows }) (λ i. record {
        bodies = c.args.bodies;
        full = c.args.full;
        up = up i;
        rows = c.args.rows;
        q = c.in_ok-body_tables.ensures.q i;
        X = c.in_ok-body_tables.ensures.X i;
        s = c.in_ok-body_tables.ensures.s i;
        v = c.in_ok-body_tables.ensures.v i;
        c = c.in_ok-body_tables.ensures.c i;
        a = c.in_ok-body_tables.ensures.a i;
        b = c.in_ok-body_tables.ensures.b i;
        f = c.in_ok-body_tables.ensures.f i;
        t = c.in_ok-body_tables.ensures.t i;
        T = c.in_ok-column_tables.ensures.T i;
        I = c.in_ok-body_tables.ensures.I i;
        H = c.in_ok-column_tables.ensures.H i;
        packed = (c.in_ok-column_tables.ensures.packed ∙ packed) i;
        w = c.in_ok-column_tables.ensures.w i;
        z = c.in_ok-column_tables.ensures.z i;
        x = c.in_ok-column_tables.ensures.x i;
        IA = c.in_ok-body_tables.ensures.IA i;
        p = c.in_ok-body_tables.ensures.p i;
        U = c.in_ok-column_tables.ensures.U i;
        u = c.in_ok-column_tables.ensures.u i;
        Ia = c.in_ok-body_tables.ensures.Ia i;
        pa = c.in_ok-body_tables.ensures.pa i;
        O = c.in_ok-body_tables.ensures.O i;
        K = c.in_ok-row_tables.ensures.K i;
        J = c.in_ok-row_tables.ensures.J i;
        g = c.in_ok-row_tables.ensures.g i;
        Y = c.in_ok-row_tables.ensures.Y i;
        Z = c.in_ok-row_tables.ensures.Z i;
        pairs = c.in_ok-row_tables.ensures.pairs i;
        e = c.in_ok-row_tables.ensures.e i;
        lam = c.in_ok-row_tables.ensures.lam i;
        k = c.in_ok-column_tables.ensures.k i;
        y = c.in_ok-column_tables.ensures.y i;
      }) (record {
        few_bodies = c.requires.few_bodies;
        few_full = c.requires.few_full;
        few_columns = c.requires.few_columns;
        few_rows = c.requires.few_rows;
        ascends = c.requires.ascends;
      });
      depths = subst (λ us. AreDepths us c.in_ok-depths.depths.items) (sym up) c.in_ok-depths.ensures;
      ends = subst (λ us. AreEnds us c.in_ok-ends.ends.items) (sym up) c.in_ok-ends.ensures;
    }

pub returns : goal.returns
returns c =
    let up : c.in_ok-listed.listed.items ≡ c.args.up.now = c.in_ok-listed.ensures.items in
    let packed : replicate c.index.result.now zero_interval ≡ replicate (packed_length c.args.up.now) zero_interval =
    ap (λ n. replicate n zero_interval) (last_end _ _ c.in_ok-ends.ensures _ c.index.ensures) in
    λ i. record {
      bodies = c.args.bodies;
      full = c.args.full;
      up = up i;
      rows = c.args.rows;
      q = c.in_ok-body_tables.ensures.q i;
      X = c.in_ok-body_tables.ensures.X i;
      s = c.in_ok-body_tables.ensures.s i;
      v = c.in_ok-body_tables.ensures.v i;
      c = c.in_ok-body_tables.ensures.c i;
      a = c.in_ok-body_tables.ensures.a i;
      b = c.in_ok-body_tables.ensures.b i;
      f = c.in_ok-body_tables.ensures.f i;
      t = c.in_ok-body_tables.ensures.t i;
      T = c.in_ok-column_tables.ensures.T i;
      I = c.in_ok-body_tables.ensures.I i;
      H = c.in_ok-column_tables.ensures.H i;
      packed = (c.in_ok-column_tables.ensures.packed ∙ packed) i;
      w = c.in_ok-column_tables.ensures.w i;
      z = c.in_ok-column_tables.ensures.z i;
      x = c.in_ok-column_tables.ensures.x i;
      IA = c.in_ok-body_tables.ensures.IA i;
      p = c.in_ok-body_tables.ensures.p i;
      U = c.in_ok-column_tables.ensures.U i;
      u = c.in_ok-column_tables.ensures.u i;
      Ia = c.in_ok-body_tables.ensures.Ia i;
      pa = c.in_ok-body_tables.ensures.pa i;
      O = c.in_ok-body_tables.ensures.O i;
      K = c.in_ok-row_tables.ensures.K i;
      J = c.in_ok-row_tables.ensures.J i;
      g = c.in_ok-row_tables.ensures.g i;
      Y = c.in_ok-row_tables.ensures.Y i;
      Z = c.in_ok-row_tables.ensures.Z i;
      pairs = c.in_ok-row_tables.ensures.pairs i;
      e = c.in_ok-row_tables.ensures.e i;
      lam = c.in_ok-row_tables.ensures.lam i;
      k = c.in_ok-column_tables.ensures.k i;
      y = c.in_ok-column_tables.ensures.y i;
    }
