-- Each rule of a body keeps each relation that the operations keep.
use Rattle.rb_frac.specs.Ops.{V3}
use Rattle.rb_num.specs.Arith.{Arith}
use Rattle.rb_num.proofs.Relates.{Relates, Met, dot_met, ret_met, then_met}
use Rattle.rb_frac.specs.Tables.{Table, Symmetric, Vectors, Tables, Symmetrics}
use Rattle.rb_frac.specs.Spatial.{BodyInertias}
use Rattle.rb_spatial.proofs.Keep.{six_met, multiple_met, full_rel, product_met, upper_product_met}
use Rattle.rb_body.specs.Inertia.{turned, moved, body}

module _ {R Q : Arith} (K : Relates R Q) where
  turned_met : {r : Table R.N} {j : Symmetric R.N} {r' : Table Q.N} {j' : Symmetric Q.N} → Tables K.rel r r' → Symmetrics K.rel j j' → Met K (Symmetrics K.rel) (turned R r j) (turned Q r' j')
  unfolding turned
  turned_met hr hj = then_met K (product_met K hr (full_rel K hj)) (λ _ _ ht. upper_product_met K ht hr)

  moved_met : {j : Symmetric R.N} {h c : V3 R.N} {j' : Symmetric Q.N} {h' c' : V3 Q.N} → Symmetrics K.rel j j' → Vectors K.rel h h' → Vectors K.rel c c' → Met K (Symmetrics K.rel) (moved R j h c) (moved Q j' h' c')
  unfolding moved
  moved_met hj hh hc = search (six_met K, dot_met K, K.neg, K.one) depth 9

  pub body_met : {r : Table R.N} {m : R.N} {c : V3 R.N} {j : Symmetric R.N} {r' : Table Q.N} {m' : Q.N} {c' : V3 Q.N} {j' : Symmetric Q.N} → Tables K.rel r r' → K.rel m m' → Vectors K.rel c c' → Symmetrics K.rel j j' → Met K (BodyInertias K.rel) (body R r m c j) (body Q r' m' c' j')
  unfolding body
  body_met hr hm hc hj =
      then_met K (turned_met hr hj) (λ _ _ ht.
      then_met K (multiple_met K hm hc) (λ _ _ hh.
      then_met K (moved_met ht hh hc) (λ _ _ hi. ret_met K (record { mass = hm; first = hh; six = hi }))))
