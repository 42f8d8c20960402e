-- Each rule keeps each relation that the operations keep.
use Rattle.std.proofs.Common.{ℕ, ◌-◌, ◌==◌, nat_lt, Bool, true, false, if◌then◌else◌}
use Rattle.rb_frac.specs.Ops.{V3}
use Rattle.rb_num.specs.Arith.{Arith, signs_of}
use Rattle.rb_num.proofs.Relates.{Relates, Met, dot_met, add_met, ret_met, then_met}
use Rattle.rb_frac.specs.Tables.{Table, Symmetric, transpose, full, component, row, Vectors, Tables, Symmetrics, cross_table}
use Rattle.rb_frac.specs.Spatial.{Spatial, Place, BodyInertia, Inertia, entry, Spatials, Places, BodyInertias, Inertias}
use Rattle.rb_spatial.specs.Motions.{three, three_rows, six, two, multiple, sum_spatial, cross3, cross_twice, plus_cross, mul, apply, apply_dual, cross, cross_dual, power, sum_vector}
use Rattle.rb_spatial.specs.Inertias.{blocks, mul_both, table, times, sum_table, sum_symmetric, sum, less, less_vector, less_table, less_symmetric, less_outer}
use Rattle.rb_spatial.specs.Carrying.{row_mul, product, upper_product, less_row, less_product, corrected, correct, turn_symmetric, turn_table, carry}

-- a choice of related values
pub choice : {A B : Type 0} (rel : A → B → Type 0) (b : Bool) {x y : A} {x' y' : B} → rel x x' → rel y y' → rel (if b then x else y) (if b then x' else y')
choice rel true h k = h
choice rel false h k = k

module _ {R Q : Arith} (K : Relates R Q) where
  pub three_met : {a b c : R.M R.N} {a' b' c' : Q.M Q.N} → Met K K.rel a a' → Met K K.rel b b' → Met K K.rel c c' → Met K (Vectors K.rel) (three R a b c) (three Q a' b' c')
  three_met ha hb hc = then_met K ha (λ _ _ x. then_met K hb (λ _ _ y. then_met K hc (λ _ _ z. ret_met K (record { x = x; y = y; z = z }))))

  pub rows_met : {a b c : R.M (V3 R.N)} {a' b' c' : Q.M (V3 Q.N)} → Met K (Vectors K.rel) a a' → Met K (Vectors K.rel) b b' → Met K (Vectors K.rel) c c' → Met K (Tables K.rel) (three_rows R a b c) (three_rows Q a' b' c')
  rows_met ha hb hc = then_met K ha (λ _ _ x. then_met K hb (λ _ _ y. then_met K hc (λ _ _ z. ret_met K (record { x = x; y = y; z = z }))))

  pub two_met : {a b : R.M (V3 R.N)} {a' b' : Q.M (V3 Q.N)} → Met K (Vectors K.rel) a a' → Met K (Vectors K.rel) b b' → Met K (Spatials K.rel) (two R a b) (two Q a' b')
  two_met ha hb = then_met K ha (λ _ _ x. then_met K hb (λ _ _ y. ret_met K (record { lin = x; ang = y })))

  pub six_met : {a b c d e f : R.M R.N} {a' b' c' d' e' f' : Q.M Q.N} → Met K K.rel a a' → Met K K.rel b b' → Met K K.rel c c' → Met K K.rel d d' → Met K K.rel e e' → Met K K.rel f f' → Met K (Symmetrics K.rel) (six R a b c d e f) (six Q a' b' c' d' e' f')
  six_met ha hb hc hd he hf =
      then_met K ha (λ _ _ a. then_met K hb (λ _ _ b. then_met K hc (λ _ _ c. then_met K hd (λ _ _ d. then_met K he (λ _ _ e. then_met K hf (λ _ _ f.
      ret_met K (record { xx = a; xy = b; xz = c; yy = d; yz = e; zz = f })))))))

  blocks_met : {a c : R.M (Symmetric R.N)} {b : R.M (Table R.N)} {a' c' : Q.M (Symmetric Q.N)} {b' : Q.M (Table Q.N)} → Met K (Symmetrics K.rel) a a' → Met K (Tables K.rel) b b' → Met K (Symmetrics K.rel) c c' → Met K (Inertias K.rel) (blocks R a b c) (blocks Q a' b' c')
  blocks_met ha hb hc = then_met K ha (λ _ _ a. then_met K hb (λ _ _ b. then_met K hc (λ _ _ c. ret_met K (record { a = a; b = b; c = c }))))

  pub transpose_rel : {t : Table R.N} {t' : Table Q.N} → Tables K.rel t t' → Tables K.rel (transpose t) (transpose t')
  transpose_rel h = search h

  pub full_rel : {s : Symmetric R.N} {s' : Symmetric Q.N} → Symmetrics K.rel s s' → Tables K.rel (full s) (full s')
  full_rel h = search h

  component_rel : {u : V3 R.N} {u' : V3 Q.N} → Vectors K.rel u u' → (k : ℕ) → K.rel (component u k) (component u' k)
  component_rel h k = choice K.rel (k == 0) h.x (choice K.rel (k == 1) h.y h.z)

  row_rel : {t : Table R.N} {t' : Table Q.N} → Tables K.rel t t' → (k : ℕ) → Vectors K.rel (row t k) (row t' k)
  row_rel h k = choice (Vectors K.rel) (k == 0) h.x (choice (Vectors K.rel) (k == 1) h.y h.z)

  pub entry_rel : {i : Inertia R.N} {i' : Inertia Q.N} → Inertias K.rel i i' → (r c : ℕ) → K.rel (entry i r c) (entry i' r c)
  unfolding entry
  entry_rel h r c =
      choice K.rel (nat_lt r 3)
      (choice K.rel (nat_lt c 3) (component_rel (row_rel (full_rel h.a) r) c) (component_rel (row_rel h.b r) (c - 3)))
      (choice K.rel (nat_lt c 3) (component_rel (row_rel (transpose_rel h.b) (r - 3)) c) (component_rel (row_rel (full_rel h.c) (r - 3)) (c - 3)))

  pub cross_table_rel : {u : V3 R.N} {u' : V3 Q.N} → Vectors K.rel u u' → Tables K.rel (cross_table (signs_of R) u) (cross_table (signs_of Q) u')
  cross_table_rel h = search (h, K.neg, K.zero)

  pub cross3_met : {u w : V3 R.N} {u' w' : V3 Q.N} → Vectors K.rel u u' → Vectors K.rel w w' → Met K (Vectors K.rel) (cross3 R u w) (cross3 Q u' w')
  unfolding cross3
  cross3_met hu hw = search (three_met, dot_met K, K.neg) depth 9

  pub cross_twice_met : {u w s t : V3 R.N} {u' w' s' t' : V3 Q.N} → Vectors K.rel u u' → Vectors K.rel w w' → Vectors K.rel s s' → Vectors K.rel t t' → Met K (Vectors K.rel) (cross_twice R u w s t) (cross_twice Q u' w' s' t')
  unfolding cross_twice
  cross_twice_met hu hw hs ht = search (three_met, dot_met K, K.neg) depth 9

  pub plus_cross_met : {n u w : V3 R.N} {n' u' w' : V3 Q.N} → Vectors K.rel n n' → Vectors K.rel u u' → Vectors K.rel w w' → Met K (Vectors K.rel) (plus_cross R n u w) (plus_cross Q n' u' w')
  unfolding plus_cross
  plus_cross_met hn hu hw = search (three_met, dot_met K, K.neg, K.one) depth 9

  pub mul_met : {t : Table R.N} {v : V3 R.N} {t' : Table Q.N} {v' : V3 Q.N} → Tables K.rel t t' → Vectors K.rel v v' → Met K (Vectors K.rel) (mul R t v) (mul Q t' v')
  unfolding mul
  mul_met ht hv = search (three_met, dot_met K) depth 9

  pub sum_vector_met : {u w : V3 R.N} {u' w' : V3 Q.N} → Vectors K.rel u u' → Vectors K.rel w w' → Met K (Vectors K.rel) (sum_vector R u w) (sum_vector Q u' w')
  unfolding sum_vector
  sum_vector_met hu hw = three_met (add_met K hu.x hw.x) (add_met K hu.y hw.y) (add_met K hu.z hw.z)

  pub multiple_met : {k : R.N} {v : V3 R.N} {k' : Q.N} {v' : V3 Q.N} → K.rel k k' → Vectors K.rel v v' → Met K (Vectors K.rel) (multiple R k v) (multiple Q k' v')
  unfolding multiple
  multiple_met hk hv = search (three_met, dot_met K) depth 9

  pub sum_spatial_met : {a b : Spatial R.N} {a' b' : Spatial Q.N} → Spatials K.rel a a' → Spatials K.rel b b' → Met K (Spatials K.rel) (sum_spatial R a b) (sum_spatial Q a' b')
  unfolding sum_spatial
  sum_spatial_met ha hb = two_met (sum_vector_met ha.lin hb.lin) (sum_vector_met ha.ang hb.ang)

  pub cross_met : {a b : Spatial R.N} {a' b' : Spatial Q.N} → Spatials K.rel a a' → Spatials K.rel b b' → Met K (Spatials K.rel) (cross R a b) (cross Q a' b')
  unfolding cross
  cross_met ha hb = two_met (cross_twice_met ha.ang hb.lin ha.lin hb.ang) (cross3_met ha.ang hb.ang)

  pub cross_dual_met : {a f : Spatial R.N} {a' f' : Spatial Q.N} → Spatials K.rel a a' → Spatials K.rel f f' → Met K (Spatials K.rel) (cross_dual R a f) (cross_dual Q a' f')
  unfolding cross_dual
  cross_dual_met ha hf = two_met (cross3_met ha.ang hf.lin) (cross_twice_met ha.ang hf.ang ha.lin hf.lin)

  pub apply_met : {x : Place R.N} {m : Spatial R.N} {x' : Place Q.N} {m' : Spatial Q.N} → Places K.rel x x' → Spatials K.rel m m' → Met K (Spatials K.rel) (apply R x m) (apply Q x' m')
  unfolding apply
  apply_met hx hm =
      then_met K (plus_cross_met hm.lin hm.ang hx.r) (λ _ _ ht. two_met (mul_met hx.e ht) (mul_met hx.e hm.ang))

  pub apply_dual_met : {x : Place R.N} {f : Spatial R.N} {x' : Place Q.N} {f' : Spatial Q.N} → Places K.rel x x' → Spatials K.rel f f' → Met K (Spatials K.rel) (apply_dual R x f) (apply_dual Q x' f')
  unfolding apply_dual
  apply_dual_met hx hf =
      then_met K (mul_met (transpose_rel hx.e) hf.lin) (λ _ _ hg.
      then_met K (mul_met (transpose_rel hx.e) hf.ang) (λ _ _ hn.
      then_met K (plus_cross_met hn hx.r hg) (λ _ _ ha. ret_met K (record { lin = hg; ang = ha }))))

  pub power_met : {m f : Spatial R.N} {m' f' : Spatial Q.N} → Spatials K.rel m m' → Spatials K.rel f f' → Met K K.rel (power R m f) (power Q m' f')
  unfolding power
  power_met hm hf = search (dot_met K) depth 9

  mul_both_met : {s t : Table R.N} {u w : V3 R.N} {s' t' : Table Q.N} {u' w' : V3 Q.N} → Tables K.rel s s' → Tables K.rel t t' → Vectors K.rel u u' → Vectors K.rel w w' → Met K (Vectors K.rel) (mul_both R s t u w) (mul_both Q s' t' u' w')
  unfolding mul_both
  mul_both_met hs ht hu hw = search (three_met, dot_met K) depth 9

  pub times_met : {i : Inertia R.N} {m : Spatial R.N} {i' : Inertia Q.N} {m' : Spatial Q.N} → Inertias K.rel i i' → Spatials K.rel m m' → Met K (Spatials K.rel) (times R i m) (times Q i' m')
  unfolding times
  times_met hi hm =
      two_met (mul_both_met (full_rel hi.a) hi.b hm.lin hm.ang) (mul_both_met (transpose_rel hi.b) (full_rel hi.c) hm.lin hm.ang)

  pub table_rel : {i : BodyInertia R.N} {i' : BodyInertia Q.N} → BodyInertias K.rel i i' → Inertias K.rel (table R i) (table Q i')
  unfolding table
  table_rel h = record { a = search (h, K.zero); b = transpose_rel (cross_table_rel h.first); c = h.six }

  sum_table_met : {s t : Table R.N} {s' t' : Table Q.N} → Tables K.rel s s' → Tables K.rel t t' → Met K (Tables K.rel) (sum_table R s t) (sum_table Q s' t')
  unfolding sum_table
  sum_table_met hs ht = rows_met (sum_vector_met hs.x ht.x) (sum_vector_met hs.y ht.y) (sum_vector_met hs.z ht.z)

  sum_symmetric_met : {s t : Symmetric R.N} {s' t' : Symmetric Q.N} → Symmetrics K.rel s s' → Symmetrics K.rel t t' → Met K (Symmetrics K.rel) (sum_symmetric R s t) (sum_symmetric Q s' t')
  unfolding sum_symmetric
  sum_symmetric_met hs ht =
      six_met (add_met K hs.xx ht.xx) (add_met K hs.xy ht.xy) (add_met K hs.xz ht.xz) (add_met K hs.yy ht.yy) (add_met K hs.yz ht.yz) (add_met K hs.zz ht.zz)

  pub sum_met : {i j : Inertia R.N} {i' j' : Inertia Q.N} → Inertias K.rel i i' → Inertias K.rel j j' → Met K (Inertias K.rel) (sum R i j) (sum Q i' j')
  unfolding sum
  sum_met hi hj = blocks_met (sum_symmetric_met hi.a hj.a) (sum_table_met hi.b hj.b) (sum_symmetric_met hi.c hj.c)

  less_met : {i u w : R.N} {i' u' w' : Q.N} → K.rel i i' → K.rel u u' → K.rel w w' → Met K K.rel (less R i u w) (less Q i' u' w')
  less_met hi hu hw = dot_met K _ _ (hi, K.one, (K.neg _ _ hu, hw, tt))

  less_vector_met : {i w : V3 R.N} {u : R.N} {i' w' : V3 Q.N} {u' : Q.N} → Vectors K.rel i i' → K.rel u u' → Vectors K.rel w w' → Met K (Vectors K.rel) (less_vector R i u w) (less_vector Q i' u' w')
  unfolding less_vector
  less_vector_met hi hu hw = three_met (less_met hi.x hu hw.x) (less_met hi.y hu hw.y) (less_met hi.z hu hw.z)

  less_table_met : {i : Table R.N} {u w : V3 R.N} {i' : Table Q.N} {u' w' : V3 Q.N} → Tables K.rel i i' → Vectors K.rel u u' → Vectors K.rel w w' → Met K (Tables K.rel) (less_table R i u w) (less_table Q i' u' w')
  unfolding less_table
  less_table_met hi hu hw = rows_met (less_vector_met hi.x hu.x hw) (less_vector_met hi.y hu.y hw) (less_vector_met hi.z hu.z hw)

  less_symmetric_met : {i : Symmetric R.N} {u w : V3 R.N} {i' : Symmetric Q.N} {u' w' : V3 Q.N} → Symmetrics K.rel i i' → Vectors K.rel u u' → Vectors K.rel w w' → Met K (Symmetrics K.rel) (less_symmetric R i u w) (less_symmetric Q i' u' w')
  unfolding less_symmetric
  less_symmetric_met hi hu hw =
      six_met (less_met hi.xx hu.x hw.x) (less_met hi.xy hu.x hw.y) (less_met hi.xz hu.x hw.z) (less_met hi.yy hu.y hw.y) (less_met hi.yz hu.y hw.z) (less_met hi.zz hu.z hw.z)

  pub less_outer_met : {i : Inertia R.N} {u w : Spatial R.N} {i' : Inertia Q.N} {u' w' : Spatial Q.N} → Inertias K.rel i i' → Spatials K.rel u u' → Spatials K.rel w w' → Met K (Inertias K.rel) (less_outer R i u w) (less_outer Q i' u' w')
  unfolding less_outer
  less_outer_met hi hu hw =
      blocks_met (less_symmetric_met hi.a hu.lin hw.lin) (less_table_met hi.b hu.lin hw.ang) (less_symmetric_met hi.c hu.ang hw.ang)

  row_mul_met : {v : V3 R.N} {t : Table R.N} {v' : V3 Q.N} {t' : Table Q.N} → Vectors K.rel v v' → Tables K.rel t t' → Met K (Vectors K.rel) (row_mul R v t) (row_mul Q v' t')
  unfolding row_mul
  row_mul_met hv ht = search (three_met, dot_met K) depth 9

  pub product_met : {s t : Table R.N} {s' t' : Table Q.N} → Tables K.rel s s' → Tables K.rel t t' → Met K (Tables K.rel) (product R s t) (product Q s' t')
  unfolding product
  product_met hs ht =
      let columns = transpose_rel ht in
      rows_met (row_mul_met hs.x columns) (row_mul_met hs.y columns) (row_mul_met hs.z columns)

  pub upper_product_met : {s t : Table R.N} {s' t' : Table Q.N} → Tables K.rel s s' → Tables K.rel t t' → Met K (Symmetrics K.rel) (upper_product R s t) (upper_product Q s' t')
  unfolding upper_product
  upper_product_met hs ht = search (six_met, dot_met K) depth 9

  less_row_met : {b v : V3 R.N} {t : Table R.N} {b' v' : V3 Q.N} {t' : Table Q.N} → Vectors K.rel b b' → Vectors K.rel v v' → Tables K.rel t t' → Met K (Vectors K.rel) (less_row R b v t) (less_row Q b' v' t')
  unfolding less_row
  less_row_met hb hv ht = search (three_met, dot_met K, K.neg, K.one) depth 9

  less_product_met : {b a r : Table R.N} {b' a' r' : Table Q.N} → Tables K.rel b b' → Tables K.rel a a' → Tables K.rel r r' → Met K (Tables K.rel) (less_product R b a r) (less_product Q b' a' r')
  unfolding less_product
  less_product_met hb ha hr =
      let columns = transpose_rel hr in
      rows_met (less_row_met hb.x ha.x columns) (less_row_met hb.y ha.y columns) (less_row_met hb.z ha.z columns)

  corrected_met : {c : R.N} {u p w q : V3 R.N} {c' : Q.N} {u' p' w' q' : V3 Q.N} → K.rel c c' → Vectors K.rel u u' → Vectors K.rel p p' → Vectors K.rel w w' → Vectors K.rel q q' → Met K K.rel (corrected R c u p w q) (corrected Q c' u' p' w' q')
  corrected_met hc hu hp hw hq = search (dot_met K, K.neg, K.one) depth 9

  correct_met : {c : Symmetric R.N} {r bt ct rt : Table R.N} {c' : Symmetric Q.N} {r' bt' ct' rt' : Table Q.N} → Symmetrics K.rel c c' → Tables K.rel r r' → Tables K.rel bt bt' → Tables K.rel ct ct' → Tables K.rel rt rt' → Met K (Symmetrics K.rel) (correct R c r bt ct rt) (correct Q c' r' bt' ct' rt')
  unfolding correct
  correct_met hc hr hb h1 ht =
      six_met
      (corrected_met hc.xx hr.x hb.x h1.x ht.x)
      (corrected_met hc.xy hr.x hb.y h1.x ht.y)
      (corrected_met hc.xz hr.x hb.z h1.x ht.z)
      (corrected_met hc.yy hr.y hb.y h1.y ht.y)
      (corrected_met hc.yz hr.y hb.z h1.y ht.z)
      (corrected_met hc.zz hr.z hb.z h1.z ht.z)

  turn_symmetric_met : {e : Table R.N} {a : Symmetric R.N} {e' : Table Q.N} {a' : Symmetric Q.N} → Tables K.rel e e' → Symmetrics K.rel a a' → Met K (Symmetrics K.rel) (turn_symmetric R e a) (turn_symmetric Q e' a')
  unfolding turn_symmetric
  turn_symmetric_met he ha =
      then_met K (product_met (full_rel ha) he) (λ _ _ h. upper_product_met (transpose_rel he) (transpose_rel h))

  turn_table_met : {e b : Table R.N} {e' b' : Table Q.N} → Tables K.rel e e' → Tables K.rel b b' → Met K (Tables K.rel) (turn_table R e b) (turn_table Q e' b')
  unfolding turn_table
  turn_table_met he hb = then_met K (product_met hb he) (λ _ _ h. product_met (transpose_rel he) h)

  pub carry_met : {x : Place R.N} {i : Inertia R.N} {x' : Place Q.N} {i' : Inertia Q.N} → Places K.rel x x' → Inertias K.rel i i' → Met K (Inertias K.rel) (carry R x i) (carry Q x' i')
  unfolding carry
  carry_met hx hi =
      then_met K (turn_symmetric_met hx.e hi.a) (λ _ _ ha.
      then_met K (turn_table_met hx.e hi.b) (λ _ _ h1.
      then_met K (turn_symmetric_met hx.e hi.c) (λ _ _ h2.
      then_met K (less_product_met h1 (full_rel ha) (cross_table_rel hx.r)) (λ _ _ hb.
      then_met K (correct_met h2 (cross_table_rel hx.r) (transpose_rel hb) (transpose_rel h1) (transpose_rel (cross_table_rel hx.r))) (λ _ _ hc.
      ret_met K (record { a = ha; b = hb; c = hc }))))))
