-- Each rule of joints keeps each relation that the operations keep.
use Rattle.std.proofs.Common.{ℕ, ◌-◌, ◌==◌, nat_lt}
use Rattle.rb_frac.specs.Ops.{V3}
use Rattle.rb_num.specs.Arith.{Arith, signs_of}
use Rattle.rb_num.proofs.Relates.{Relates, Met, dot_met, add_met, sub_met, ret_met, then_met}
use Rattle.rb_frac.specs.Tables.{Table, Symmetric, nothing, unit, Vectors, Tables, Symmetrics}
use Rattle.rb_frac.specs.Spatial.{Frame, Spatials, Places, Frames, SineCosine, Quaternion, SineCosines, Quaternions}
use Rattle.rb_spatial.proofs.Keep.{choice, three_met, rows_met, six_met, product_met, multiple_met, transpose_rel}
use Rattle.rb_flat.specs.Turns.{about_z}
use Rattle.rb_flat.specs.Joint.{Planar, Free, along, around, joint_column}
use Rattle.rb_joint.specs.Turns.{rotation_row_x, rotation_row_y, rotation_row_z, rotation, axis_products, axis_row_x, axis_row_y, axis_row_z, turn_about, quaternion_row_x, quaternion_row_y, quaternion_row_z, twice, turn_of}
use Rattle.rb_joint.specs.Places.{outside, place_of, place_shifted}
use Rattle.rb_joint.specs.Models.{place_fixed, place_turned, place_along, place_level, place_free}

module _ {R Q : Arith} (K : Relates R Q) where
  rotation_row_x_met : {roll pitch yaw : SineCosine R.N} {t1 t2 : R.N} {roll' pitch' yaw' : SineCosine Q.N} {t1' t2' : Q.N} → SineCosines K.rel roll roll' → SineCosines K.rel pitch pitch' → SineCosines K.rel yaw yaw' → K.rel t1 t1' → K.rel t2 t2' → Met K (Vectors K.rel) (rotation_row_x R roll pitch yaw t1 t2) (rotation_row_x Q roll' pitch' yaw' t1' t2')
  unfolding rotation_row_x
  rotation_row_x_met hr hp hy h1 h2 = search (three_met K, dot_met K, K.neg) depth 9

  rotation_row_y_met : {roll pitch yaw : SineCosine R.N} {t1 t2 : R.N} {roll' pitch' yaw' : SineCosine Q.N} {t1' t2' : Q.N} → SineCosines K.rel roll roll' → SineCosines K.rel pitch pitch' → SineCosines K.rel yaw yaw' → K.rel t1 t1' → K.rel t2 t2' → Met K (Vectors K.rel) (rotation_row_y R roll pitch yaw t1 t2) (rotation_row_y Q roll' pitch' yaw' t1' t2')
  unfolding rotation_row_y
  rotation_row_y_met hr hp hy h1 h2 = search (three_met K, dot_met K, K.neg) depth 9

  rotation_row_z_met : {roll pitch : SineCosine R.N} {roll' pitch' : SineCosine Q.N} → SineCosines K.rel roll roll' → SineCosines K.rel pitch pitch' → Met K (Vectors K.rel) (rotation_row_z R roll pitch) (rotation_row_z Q roll' pitch')
  unfolding rotation_row_z
  rotation_row_z_met hr hp =
      three_met K (ret_met K (K.neg _ _ hp.sin)) (dot_met K _ _ (hp.cos, hr.sin, tt)) (dot_met K _ _ (hp.cos, hr.cos, tt))

  pub rotation_met : {roll pitch yaw : SineCosine R.N} {roll' pitch' yaw' : SineCosine Q.N} → SineCosines K.rel roll roll' → SineCosines K.rel pitch pitch' → SineCosines K.rel yaw yaw' → Met K (Tables K.rel) (rotation R roll pitch yaw) (rotation Q roll' pitch' yaw')
  unfolding rotation
  rotation_met hr hp hy =
      then_met K (dot_met K _ _ (hp.sin, hr.sin, tt)) (λ _ _ h1.
      then_met K (dot_met K _ _ (hp.sin, hr.cos, tt)) (λ _ _ h2.
      rows_met K (rotation_row_x_met hr hp hy h1 h2) (rotation_row_y_met hr hp hy h1 h2) (rotation_row_z_met hr hp)))

  pub axis_products_met : {a : V3 R.N} {a' : V3 Q.N} → Vectors K.rel a a' → Met K (Symmetrics K.rel) (axis_products R a) (axis_products Q a')
  unfolding axis_products
  axis_products_met h = search (six_met K, dot_met K) depth 9

  axis_row_x_met : {a : V3 R.N} {p : Symmetric R.N} {s k : R.N} {a' : V3 Q.N} {p' : Symmetric Q.N} {s' k' : Q.N} → Vectors K.rel a a' → Symmetrics K.rel p p' → K.rel s s' → K.rel k k' → Met K (Vectors K.rel) (axis_row_x R a p s k) (axis_row_x Q a' p' s' k')
  unfolding axis_row_x
  axis_row_x_met ha hp hs hk = search (three_met K, dot_met K, K.neg, K.one) depth 9

  axis_row_y_met : {a : V3 R.N} {p : Symmetric R.N} {s k : R.N} {a' : V3 Q.N} {p' : Symmetric Q.N} {s' k' : Q.N} → Vectors K.rel a a' → Symmetrics K.rel p p' → K.rel s s' → K.rel k k' → Met K (Vectors K.rel) (axis_row_y R a p s k) (axis_row_y Q a' p' s' k')
  unfolding axis_row_y
  axis_row_y_met ha hp hs hk = search (three_met K, dot_met K, K.neg, K.one) depth 9

  axis_row_z_met : {a : V3 R.N} {p : Symmetric R.N} {s k : R.N} {a' : V3 Q.N} {p' : Symmetric Q.N} {s' k' : Q.N} → Vectors K.rel a a' → Symmetrics K.rel p p' → K.rel s s' → K.rel k k' → Met K (Vectors K.rel) (axis_row_z R a p s k) (axis_row_z Q a' p' s' k')
  unfolding axis_row_z
  axis_row_z_met ha hp hs hk = search (three_met K, dot_met K, K.neg, K.one) depth 9

  pub turn_about_met : {a : V3 R.N} {p : Symmetric R.N} {t : SineCosine R.N} {a' : V3 Q.N} {p' : Symmetric Q.N} {t' : SineCosine Q.N} → Vectors K.rel a a' → Symmetrics K.rel p p' → SineCosines K.rel t t' → Met K (Tables K.rel) (turn_about R a p t) (turn_about Q a' p' t')
  unfolding turn_about
  turn_about_met ha hp ht =
      then_met K (sub_met K K.one ht.cos) (λ _ _ hk.
      rows_met K (axis_row_x_met ha hp ht.sin hk) (axis_row_y_met ha hp ht.sin hk) (axis_row_z_met ha hp ht.sin hk))

  pub turn_level_rel : {t : SineCosine R.N} {t' : SineCosine Q.N} → SineCosines K.rel t t' → Tables K.rel (about_z (signs_of R) t) (about_z (signs_of Q) t')
  unfolding about_z
  turn_level_rel h = search (h, K.neg, K.zero, K.one)

  quaternion_row_x_met : {q : Quaternion R.N} {d : V3 R.N} {q' : Quaternion Q.N} {d' : V3 Q.N} → Quaternions K.rel q q' → Vectors K.rel d d' → Met K (Vectors K.rel) (quaternion_row_x R q d) (quaternion_row_x Q q' d')
  unfolding quaternion_row_x
  quaternion_row_x_met hq hd = search (three_met K, dot_met K, K.neg, K.one) depth 9

  quaternion_row_y_met : {q : Quaternion R.N} {d : V3 R.N} {q' : Quaternion Q.N} {d' : V3 Q.N} → Quaternions K.rel q q' → Vectors K.rel d d' → Met K (Vectors K.rel) (quaternion_row_y R q d) (quaternion_row_y Q q' d')
  unfolding quaternion_row_y
  quaternion_row_y_met hq hd = search (three_met K, dot_met K, K.neg, K.one) depth 9

  quaternion_row_z_met : {q : Quaternion R.N} {d : V3 R.N} {q' : Quaternion Q.N} {d' : V3 Q.N} → Quaternions K.rel q q' → Vectors K.rel d d' → Met K (Vectors K.rel) (quaternion_row_z R q d) (quaternion_row_z Q q' d')
  unfolding quaternion_row_z
  quaternion_row_z_met hq hd = search (three_met K, dot_met K, K.neg, K.one) depth 9

  twice_met : {q : Quaternion R.N} {q' : Quaternion Q.N} → Quaternions K.rel q q' → Met K (Vectors K.rel) (twice R q) (twice Q q')
  unfolding twice
  twice_met h = three_met K (add_met K h.x h.x) (add_met K h.y h.y) (add_met K h.z h.z)

  pub turn_of_met : {q : Quaternion R.N} {q' : Quaternion Q.N} → Quaternions K.rel q q' → Met K (Tables K.rel) (turn_of R q) (turn_of Q q')
  unfolding turn_of
  turn_of_met h = then_met K (twice_met h) (λ _ _ hd. rows_met K (quaternion_row_x_met h hd) (quaternion_row_y_met h hd) (quaternion_row_z_met h hd))

  pub outside_met : {f : Frame R.N} {p : V3 R.N} {f' : Frame Q.N} {p' : V3 Q.N} → Frames K.rel f f' → Vectors K.rel p p' → Met K (Vectors K.rel) (outside R f p) (outside Q f' p')
  unfolding outside
  outside_met hf hp = search (three_met K, dot_met K, K.one) depth 9

  pub place_of_met : {f : Frame R.N} {t : Table R.N} {p : V3 R.N} {f' : Frame Q.N} {t' : Table Q.N} {p' : V3 Q.N} → Frames K.rel f f' → Tables K.rel t t' → Vectors K.rel p p' → Met K (Places K.rel) (place_of R f t p) (place_of Q f' t' p')
  unfolding place_of
  place_of_met hf ht hp =
      then_met K (product_met K hf.rot ht) (λ _ _ he.
      then_met K (outside_met hf hp) (λ _ _ hr. ret_met K (record { e = transpose_rel K he; r = hr })))

  pub place_shifted_met : {f : Frame R.N} {p : V3 R.N} {f' : Frame Q.N} {p' : V3 Q.N} → Frames K.rel f f' → Vectors K.rel p p' → Met K (Places K.rel) (place_shifted R f p) (place_shifted Q f' p')
  unfolding place_shifted
  place_shifted_met hf hp = then_met K (outside_met hf hp) (λ _ _ hr. ret_met K (record { e = transpose_rel K hf.rot; r = hr }))

  origin_rel : Vectors K.rel (nothing (signs_of R)) (nothing (signs_of Q))
  origin_rel = record { x = K.zero; y = K.zero; z = K.zero }

  pub place_fixed_met : {f : Frame R.N} {f' : Frame Q.N} → Frames K.rel f f' → Met K (Places K.rel) (place_fixed R f) (place_fixed Q f')
  unfolding place_fixed
  place_fixed_met hf = place_shifted_met hf origin_rel

  pub place_turned_met : {f : Frame R.N} {a : V3 R.N} {t : SineCosine R.N} {f' : Frame Q.N} {a' : V3 Q.N} {t' : SineCosine Q.N} → Frames K.rel f f' → Vectors K.rel a a' → SineCosines K.rel t t' → Met K (Places K.rel) (place_turned R f a t) (place_turned Q f' a' t')
  unfolding place_turned
  place_turned_met hf ha ht =
      then_met K (axis_products_met ha) (λ _ _ hp.
      then_met K (turn_about_met ha hp ht) (λ _ _ hr. place_of_met hf hr origin_rel))

  pub place_along_met : {f : Frame R.N} {a : V3 R.N} {d : R.N} {f' : Frame Q.N} {a' : V3 Q.N} {d' : Q.N} → Frames K.rel f f' → Vectors K.rel a a' → K.rel d d' → Met K (Places K.rel) (place_along R f a d) (place_along Q f' a' d')
  unfolding place_along
  place_along_met hf ha hd = then_met K (multiple_met K hd ha) (λ _ _ hp. place_shifted_met hf hp)

  pub place_level_met : {f : Frame R.N} {p : V3 R.N} {t : SineCosine R.N} {f' : Frame Q.N} {p' : V3 Q.N} {t' : SineCosine Q.N} → Frames K.rel f f' → Vectors K.rel p p' → SineCosines K.rel t t' → Met K (Places K.rel) (place_level R f p t) (place_level Q f' p' t')
  unfolding place_level
  place_level_met hf hp ht = place_of_met hf (turn_level_rel ht) hp

  pub place_free_met : {f : Frame R.N} {p : V3 R.N} {q : Quaternion R.N} {f' : Frame Q.N} {p' : V3 Q.N} {q' : Quaternion Q.N} → Frames K.rel f f' → Vectors K.rel p p' → Quaternions K.rel q q' → Met K (Places K.rel) (place_free R f p q) (place_free Q f' p' q')
  unfolding place_free
  place_free_met hf hp hq = then_met K (turn_of_met hq) (λ _ _ ht. place_of_met hf ht hp)

  -- ---- columns
  along_rel : {a : V3 R.N} {a' : V3 Q.N} → Vectors K.rel a a' → Spatials K.rel (along (signs_of R) a) (along (signs_of Q) a')
  along_rel h = record { lin = h; ang = origin_rel }

  around_rel : {a : V3 R.N} {a' : V3 Q.N} → Vectors K.rel a a' → Spatials K.rel (around (signs_of R) a) (around (signs_of Q) a')
  around_rel h = record { lin = origin_rel; ang = h }

  unit_rel : (k : ℕ) → Vectors K.rel (unit (signs_of R) k) (unit (signs_of Q) k)
  unit_rel k =
      choice (Vectors K.rel) (k == 0)
      (record { x = K.one; y = K.zero; z = K.zero })
      (choice (Vectors K.rel) (k == 1) (record { x = K.zero; y = K.one; z = K.zero }) (record { x = K.zero; y = K.zero; z = K.one }))

  -- no axis is asked for
  pub planar_rel : (a : V3 R.N) (a' : V3 Q.N) (k : ℕ) → Spatials K.rel (joint_column (signs_of R) Planar a k) (joint_column (signs_of Q) Planar a' k)
  unfolding joint_column
  planar_rel a a' k = choice (Spatials K.rel) (k == 2) (around_rel (unit_rel 2)) (along_rel (unit_rel k))

  pub free_rel : (a : V3 R.N) (a' : V3 Q.N) (k : ℕ) → Spatials K.rel (joint_column (signs_of R) Free a k) (joint_column (signs_of Q) Free a' k)
  unfolding joint_column
  free_rel a a' k = choice (Spatials K.rel) (nat_lt k 3) (along_rel (unit_rel k)) (around_rel (unit_rel (k - 3)))
