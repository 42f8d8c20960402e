-- An inertia less an outer product, at vectors of which one equals a multiple of the other.
use Rattle.std.proofs.Common.{◌≡◌, refl, sym, ◌∙◌, ap}
use Rattle.rb_frac.specs.Ops.{V3, vadd, vscale}
use Rattle.rb_frac.specs.Frac.{Frac, Same, fracs, add, mul, neg}
use Rattle.rb_frac.proofs.Rational.{◌+ℚ◌, ◌*ℚ◌, neg_ℚ, cls, sound, exact}
use Rattle.rb_frac.proofs.Hom.{cls_of_add, cls_of_mul, cls_of_neg}
use Rattle.rb_num.specs.Arith.{fractions}
use Rattle.rb_num.proofs.Bridges.{Agree, to_same}
use Rattle.rb_frac.specs.Tables.{Table, Symmetric, Vectors, Tables, Symmetrics}
use Rattle.rb_frac.specs.Spatial.{Spatial, Inertia, Spatials, Inertias}
use Rattle.rb_spatial.specs.Inertias.{times}
use Rattle.rb_frac.specs.Mechanics.{plus, scaled, combined}
use Rattle.rb_spatial.specs.Laws.{LessOuterTimes}
use Rattle.rb_spatial.proofs.Keep.{power_met, times_met, less_outer_met}
use Rattle.rb_spatial.proofs.Identities.{less_outer-scaled}

-- two fractions are the same number
abbrev Equal : Frac → Frac → Type 0
Equal = Agree cls cls

equal : (x : Frac) → Equal x x
equal x = record { is = refl }

vector_equal : (v : V3 Frac) → Vectors Equal v v
vector_equal v = record { x = equal v.x; y = equal v.y; z = equal v.z }

symmetric_equal : (s : Symmetric Frac) → Symmetrics Equal s s
symmetric_equal s = record { xx = equal s.xx; xy = equal s.xy; xz = equal s.xz; yy = equal s.yy; yz = equal s.yz; zz = equal s.zz }

table_equal : (t : Table Frac) → Tables Equal t t
table_equal t = record { x = vector_equal t.x; y = vector_equal t.y; z = vector_equal t.z }

spatial_equal : (m : Spatial Frac) → Spatials Equal m m
spatial_equal m = record { lin = vector_equal m.lin; ang = vector_equal m.ang }

inertia_equal : (i : Inertia Frac) → Inertias Equal i i
inertia_equal i = record { a = symmetric_equal i.a; b = table_equal i.b; c = symmetric_equal i.c }

vector_sound : (u v : V3 Frac) → Vectors Same u v → Vectors Equal u v
vector_sound u v h = record { x = record { is = sound u.x v.x h.x }; y = record { is = sound u.y v.y h.y }; z = record { is = sound u.z v.z h.z } }

spatial_sound : (m n : Spatial Frac) → Spatials Same m n → Spatials Equal m n
spatial_sound m n h = record { lin = vector_sound m.lin n.lin h.lin; ang = vector_sound m.ang n.ang h.ang }

vector_flip : (u v : V3 Frac) → Vectors Equal u v → Vectors Equal v u
vector_flip u v h = record { x = record { is = sym h.x.is }; y = record { is = sym h.y.is }; z = record { is = sym h.z.is } }

spatial_flip : (m n : Spatial Frac) → Spatials Equal m n → Spatials Equal n m
spatial_flip m n h = record { lin = vector_flip m.lin n.lin h.lin; ang = vector_flip m.ang n.ang h.ang }

vector_through : (u v w t : V3 Frac) → Vectors Equal u v → Vectors Same v w → Vectors Equal w t → Vectors Same u t
vector_through u v w t h k l = record {
  x = exact u.x t.x (h.x.is ∙ sound v.x w.x k.x ∙ l.x.is);
  y = exact u.y t.y (h.y.is ∙ sound v.y w.y k.y ∙ l.y.is);
  z = exact u.z t.z (h.z.is ∙ sound v.z w.z k.z ∙ l.z.is);
}

spatial_through : (m n p q : Spatial Frac) → Spatials Equal m n → Spatials Same n p → Spatials Equal p q → Spatials Same m q
spatial_through m n p q h k l = record {
  lin = vector_through m.lin n.lin p.lin q.lin h.lin k.lin l.lin;
  ang = vector_through m.ang n.ang p.ang q.ang h.ang k.ang l.ang;
}

number : (p a b : Frac) → cls (add (mul (neg p) a) b) ≡ neg_ℚ (cls p) *ℚ cls a +ℚ cls b
number p a b =
    cls_of_add (mul (neg p) a) b ∙ ap (λ t. t +ℚ cls b) (cls_of_mul (neg p) a ∙ ap (λ t. t *ℚ cls a) (cls_of_neg p))

less_equal : (p q a b : Frac) → Equal p q → Equal (add (mul (neg p) a) b) (add (mul (neg q) a) b)
less_equal p q a b e = record { is = number p a b ∙ ap (λ t. neg_ℚ t *ℚ cls a +ℚ cls b) e.is ∙ sym (number q a b) }

-- - p a + b, for the same number p
combined_equal : (p q : Frac) (a b : Spatial Frac) → Equal p q → Spatials Equal (combined fracs (neg p) a b) (combined fracs (neg q) a b)
unfolding plus scaled vadd vscale
combined_equal p q a b e = record {
  lin = record { x = less_equal p q a.lin.x b.lin.x e; y = less_equal p q a.lin.y b.lin.y e; z = less_equal p q a.lin.z b.lin.z e };
  ang = record { x = less_equal p q a.ang.x b.ang.x e; y = less_equal p q a.ang.y b.ang.y e; z = less_equal p q a.ang.z b.ang.z e };
}

pub less_outer-times : LessOuterTimes
less_outer-times i u w m k h =
    let e : Spatials Equal w (scaled fracs k u) = spatial_sound w (scaled fracs k u) h in
    let back : Spatials Equal (scaled fracs k u) w = spatial_flip w (scaled fracs k u) e in
    spatial_through _ _ _ _
    (times_met to_same (less_outer_met to_same (inertia_equal i) (spatial_equal u) e).met (spatial_equal m)).met
    (less_outer-scaled i u m k)
    (combined_equal _ _ u (times fractions i m) (power_met to_same (spatial_equal m) back).met)
