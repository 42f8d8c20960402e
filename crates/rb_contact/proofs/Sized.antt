-- A work whose tables are as long as those of a work that is made for something is sized.
use Rattle.std.proofs.Common.{◌≡◌, sym, ap, subst}
use Rattle.rb_work.specs.View.{View, Extent, extent_of, IsExtent, IsSized}
use Rattle.rb_work.proofs.Sizes.{sizes_of, sizes_for}

sized_own : (w : View) → IsExtent (extent_of w) → sizes_of w ≡ sizes_for (extent_of w) → IsSized w
sized_own w is f = record {
  extent = is;
  q = ap (λ z. z.q) f;
  X = ap (λ z. z.X) f;
  s = ap (λ z. z.s) f;
  v = ap (λ z. z.v) f;
  c = ap (λ z. z.c) f;
  a = ap (λ z. z.a) f;
  b = ap (λ z. z.b) f;
  f = ap (λ z. z.f) f;
  t = ap (λ z. z.t) f;
  T = ap (λ z. z.T) f;
  I = ap (λ z. z.I) f;
  H = ap (λ z. z.H) f;
  packed = ap (λ z. z.packed) f;
  w = ap (λ z. z.w) f;
  z = ap (λ z. z.z) f;
  x = ap (λ z. z.x) f;
  IA = ap (λ z. z.IA) f;
  p = ap (λ z. z.p) f;
  U = ap (λ z. z.U) f;
  u = ap (λ z. z.u) f;
  Ia = ap (λ z. z.Ia) f;
  pa = ap (λ z. z.pa) f;
  O = ap (λ z. z.O) f;
  K = ap (λ z. z.K) f;
  J = ap (λ z. z.J) f;
  g = ap (λ z. z.g) f;
  Y = ap (λ z. z.Y) f;
  Z = ap (λ z. z.Z) f;
  pairs = ap (λ z. z.pairs) f;
  e = ap (λ z. z.e) f;
  lam = ap (λ z. z.lam) f;
  k = ap (λ z. z.k) f;
  y = ap (λ z. z.y) f;
}

pub sized_from : (w : View) (e : Extent) → IsExtent e → sizes_of w ≡ sizes_for e → IsSized w
sized_from w e is f =
    let same : extent_of w ≡ e = ap (λ z. z.extent) f in
    sized_own w (subst (λ (x : Extent). IsExtent x) (sym same) is) (subst (λ (x : Extent). sizes_of w ≡ sizes_for x) (sym same) f)
