-- What counts as the same number: an equivalence that the operations keep, and with which a sum can be undone. What is made of vectors,
-- motions and forces of the same numbers is then the same.
use Rattle.std.proofs.Common.{ℕ, zero, suc, ◌<◌, [], ◌∷◌, refl, arith}
use Rattle.rb_frac.specs.Ops.{Ops, V3, sum, vadd, vneg, vscale, vdot, vcross}
use Rattle.rb_frac.specs.Tables.{Table, Symmetric, Vectors, Tables, full, transpose, table_times}
use Rattle.rb_frac.specs.Spatial.{Spatial, Place, Spatials}
use Rattle.rb_frac.specs.Mechanics.{plus, scaled, opposite, in_body, in_parent, motion_product, power_of, newton, euler, needed}
use Rattle.rb_frac.specs.Frac.{Same, fracs}
use Rattle.rb_frac.proofs.Ring.{expr, var}
use Rattle.rb_frac.proofs.Reduce.{same_refl, same_sym, same_trans}
use Rattle.rb_frac.proofs.Rational.{add_same as frac_add, mul_same as frac_mul, neg_same as frac_neg}
use Rattle.rb_frac.proofs.Hom.{frac_ring}
use Rattle.rb_frac.proofs.Variables.{at}
use Rattle.rb_flat.specs.Dynamics.{spatial_sum}

pub record Equality {A : Type 0} (o : Ops A) : Type 1 where
  pub rel : A → A → Type 0
  pub refl : (x : A) → rel x x
  pub sym : (x y : A) → rel x y → rel y x
  pub trans : (x y z : A) → rel x y → rel y z → rel x z
  pub add : (x x' y y' : A) → rel x x' → rel y y' → rel (o.add x y) (o.add x' y')
  pub mul : (x x' y y' : A) → rel x x' → rel y y' → rel (o.mul x y) (o.mul x' y')
  pub neg : (x x' : A) → rel x x' → rel (o.neg x) (o.neg x')
  pub less_more : (x y : A) → rel (o.add (o.add x (o.neg y)) y) x
  pub more_less : (x y : A) → rel (o.add (o.add x y) (o.neg y)) x

module _ {A : Type 0} {o : Ops A} (E : Equality o) where
  -- ---- numbers
  add_same : {x x' y y' : A} → E.rel x x' → E.rel y y' → E.rel (o.add x y) (o.add x' y')
  add_same h k = E.add _ _ _ _ h k

  pub mul_same : {x x' y y' : A} → E.rel x x' → E.rel y y' → E.rel (o.mul x y) (o.mul x' y')
  mul_same h k = E.mul _ _ _ _ h k

  minus_same : {x x' y y' : A} → E.rel x x' → E.rel y y' → E.rel (o.add x (o.neg y)) (o.add x' (o.neg y'))
  minus_same h k = E.add _ _ _ _ h (E.neg _ _ k)

  pub sum_same : (n : ℕ) (f g : ℕ → A) → ((k : ℕ) → k < n → E.rel (f k) (g k)) → E.rel (sum o n f) (sum o n g)
  unfolding sum
  sum_same zero f g h = E.refl o.nul
  sum_same (suc n) f g h = add_same (sum_same n f g (λ k l. h k (omega arith))) (h n (omega arith))

  -- ---- vectors
  pub vectors_refl : (u : V3 A) → Vectors E.rel u u
  vectors_refl u = record { x = E.refl u.x; y = E.refl u.y; z = E.refl u.z }

  pub vectors_sym : {u v : V3 A} → Vectors E.rel u v → Vectors E.rel v u
  vectors_sym h = record { x = E.sym _ _ h.x; y = E.sym _ _ h.y; z = E.sym _ _ h.z }

  pub vectors_trans : {u v w : V3 A} → Vectors E.rel u v → Vectors E.rel v w → Vectors E.rel u w
  vectors_trans h k = record { x = E.trans _ _ _ h.x k.x; y = E.trans _ _ _ h.y k.y; z = E.trans _ _ _ h.z k.z }

  pub vadd_same : {u u' v v' : V3 A} → Vectors E.rel u u' → Vectors E.rel v v' → Vectors E.rel (vadd o u v) (vadd o u' v')
  unfolding vadd
  vadd_same h k = record { x = add_same h.x k.x; y = add_same h.y k.y; z = add_same h.z k.z }

  pub vneg_same : {u u' : V3 A} → Vectors E.rel u u' → Vectors E.rel (vneg o u) (vneg o u')
  unfolding vneg
  vneg_same h = record { x = E.neg _ _ h.x; y = E.neg _ _ h.y; z = E.neg _ _ h.z }

  vscale_same : {k k' : A} {u u' : V3 A} → E.rel k k' → Vectors E.rel u u' → Vectors E.rel (vscale o k u) (vscale o k' u')
  unfolding vscale
  vscale_same h k = record { x = mul_same h k.x; y = mul_same h k.y; z = mul_same h k.z }

  vdot_same : {u u' v v' : V3 A} → Vectors E.rel u u' → Vectors E.rel v v' → E.rel (vdot o u v) (vdot o u' v')
  unfolding vdot
  vdot_same h k = add_same (add_same (mul_same h.x k.x) (mul_same h.y k.y)) (mul_same h.z k.z)

  vcross_same : {u u' v v' : V3 A} → Vectors E.rel u u' → Vectors E.rel v v' → Vectors E.rel (vcross o u v) (vcross o u' v')
  unfolding vcross
  vcross_same h k = record {
    x = minus_same (mul_same h.y k.z) (mul_same h.z k.y);
    y = minus_same (mul_same h.z k.x) (mul_same h.x k.z);
    z = minus_same (mul_same h.x k.y) (mul_same h.y k.x);
  }

  pub table_same : {t t' : Table A} (u : V3 A) → Tables E.rel t t' → Vectors E.rel (table_times o t u) (table_times o t' u)
  unfolding table_times
  table_same u h =
      record { x = vdot_same h.x (vectors_refl u); y = vdot_same h.y (vectors_refl u); z = vdot_same h.z (vectors_refl u) }

  turned_same : (t : Table A) {u u' : V3 A} → Vectors E.rel u u' → Vectors E.rel (table_times o t u) (table_times o t u')
  unfolding table_times
  turned_same t h =
      record { x = vdot_same (vectors_refl t.x) h; y = vdot_same (vectors_refl t.y) h; z = vdot_same (vectors_refl t.z) h }

  -- ---- motions and forces
  pub spatials_refl : (u : Spatial A) → Spatials E.rel u u
  spatials_refl u = record { lin = vectors_refl u.lin; ang = vectors_refl u.ang }

  pub spatials_sym : {u v : Spatial A} → Spatials E.rel u v → Spatials E.rel v u
  spatials_sym h = record { lin = vectors_sym h.lin; ang = vectors_sym h.ang }

  pub spatials_trans : {u v w : Spatial A} → Spatials E.rel u v → Spatials E.rel v w → Spatials E.rel u w
  spatials_trans h k = record { lin = vectors_trans h.lin k.lin; ang = vectors_trans h.ang k.ang }

  pub plus_same : {a a' b b' : Spatial A} → Spatials E.rel a a' → Spatials E.rel b b' → Spatials E.rel (plus o a b) (plus o a' b')
  unfolding plus
  plus_same h k = record { lin = vadd_same h.lin k.lin; ang = vadd_same h.ang k.ang }

  pub scaled_same : {k k' : A} {a a' : Spatial A} → E.rel k k' → Spatials E.rel a a' → Spatials E.rel (scaled o k a) (scaled o k' a')
  unfolding scaled
  scaled_same h k = record { lin = vscale_same h k.lin; ang = vscale_same h k.ang }

  pub in_body_same : (x : Place A) {a a' : Spatial A} → Spatials E.rel a a' → Spatials E.rel (in_body o x a) (in_body o x a')
  unfolding in_body
  in_body_same x h =
      record { lin = turned_same x.e (vadd_same h.lin (vcross_same h.ang (vectors_refl x.r))); ang = turned_same x.e h.ang }

  pub in_parent_same : (x : Place A) {f f' : Spatial A} → Spatials E.rel f f' → Spatials E.rel (in_parent o x f) (in_parent o x f')
  unfolding in_parent
  in_parent_same x h =
      let lin = turned_same (transpose x.e) h.lin in
      record { lin = lin; ang = vadd_same (turned_same (transpose x.e) h.ang) (vcross_same (vectors_refl x.r) lin) }

  pub motion_product_same : {a a' b b' : Spatial A} → Spatials E.rel a a' → Spatials E.rel b b' → Spatials E.rel (motion_product o a b) (motion_product o a' b')
  unfolding motion_product
  motion_product_same h k =
      record { lin = vadd_same (vcross_same h.ang k.lin) (vcross_same h.lin k.ang); ang = vcross_same h.ang k.ang }

  pub power_same : (m : Spatial A) {f f' : Spatial A} → Spatials E.rel f f' → E.rel (power_of o m f) (power_of o m f')
  unfolding power_of
  power_same m h = add_same (vdot_same (vectors_refl m.lin) h.lin) (vdot_same (vectors_refl m.ang) h.ang)

  -- ---- what a body needs
  newton_same : (m : A) (c : V3 A) {v v' a a' : Spatial A} → Spatials E.rel v v' → Spatials E.rel a a' → Vectors E.rel (newton o m c v a) (newton o m c v' a')
  unfolding newton
  newton_same m c h k =
      vscale_same (E.refl m)
      (vadd_same (vadd_same (vadd_same k.lin (vcross_same h.ang h.lin)) (vcross_same k.ang (vectors_refl c)))
      (vcross_same h.ang (vcross_same h.ang (vectors_refl c))))

  pub needed_same : (m : A) (c : V3 A) (ic : Symmetric A) {v v' a a' : Spatial A} → Spatials E.rel v v' → Spatials E.rel a a' → Spatials E.rel (needed o m c ic v a) (needed o m c ic v' a')
  unfolding needed euler
  needed_same m c ic h k = record {
    lin = newton_same m c h k;
    ang = vadd_same
        (vadd_same (turned_same (full ic) k.ang) (vcross_same h.ang (turned_same (full ic) h.ang)))
        (vcross_same (vectors_refl c) (newton_same m c h k));
  }

  -- ---- sums
  pub spatial_sum_same : (n : ℕ) (f g : ℕ → Spatial A) → ((k : ℕ) → k < n → Spatials E.rel (f k) (g k)) → Spatials E.rel (spatial_sum o n f) (spatial_sum o n g)
  unfolding spatial_sum
  spatial_sum_same zero f g h = spatials_refl _
  spatial_sum_same (suc n) f g h = plus_same (spatial_sum_same n f g (λ k l. h k (omega arith))) (h n (omega arith))

  vectors_less_more : (u v : V3 A) → Vectors E.rel (vadd o (vadd o u (vneg o v)) v) u
  unfolding vadd vneg
  vectors_less_more u v = record { x = E.less_more u.x v.x; y = E.less_more u.y v.y; z = E.less_more u.z v.z }

  vectors_more_less : (u v : V3 A) → Vectors E.rel (vadd o (vadd o u v) (vneg o v)) u
  unfolding vadd vneg
  vectors_more_less u v = record { x = E.more_less u.x v.x; y = E.more_less u.y v.y; z = E.more_less u.z v.z }

  pub spatials_less_more : (a b : Spatial A) → Spatials E.rel (plus o (plus o a (opposite o b)) b) a
  unfolding plus opposite
  spatials_less_more a b = record { lin = vectors_less_more a.lin b.lin; ang = vectors_less_more a.ang b.ang }

  pub spatials_more_less : (a b : Spatial A) → Spatials E.rel (plus o (plus o a b) (opposite o b)) a
  unfolding plus opposite
  spatials_more_less a b = record { lin = vectors_more_less a.lin b.lin; ang = vectors_more_less a.ang b.ang }

  pub spatials_cancel : {a a' : Spatial A} (b : Spatial A) → Spatials E.rel (plus o a b) (plus o a' b) → Spatials E.rel a a'
  spatials_cancel {a} {a'} b h =
      spatials_trans (spatials_sym (spatials_more_less a b))
      (spatials_trans (plus_same h (spatials_refl (opposite o b))) (spatials_more_less a' b))

-- two fractions of one number
abbrev pub same_fractions : Equality fracs
same_fractions = record {
  rel = Same;
  refl = same_refl;
  sym = same_sym;
  trans = same_trans;
  add = frac_add;
  mul = frac_mul;
  neg = frac_neg;
  less_more = λ x y. frac_ring (at (x ∷ y ∷ [])) (expr.add (expr.add (var 0) (expr.neg (var 1))) (var 1)) (var 0) refl;
  more_less = λ x y. frac_ring (at (x ∷ y ∷ [])) (expr.add (expr.add (var 0) (var 1)) (expr.neg (var 1))) (var 0) refl;
}
