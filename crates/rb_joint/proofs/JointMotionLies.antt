-- What the motion over a joint, its turning and the power at a column enclose.
use Rattle.std.proofs.Common.{◌≡◌, ℕ, zero, suc, ◌<◌, List, [], ◌∷◌, length, Result, Ok, Err, IfOk, refl, sym, ap, ◌∙◌, arith}
use Rattle.std.specs.List.{AllZip}
use Rattle.rb_frac.specs.Ops.{vadd, vscale, sum}
use Rattle.rb_frac.specs.Frac.{Frac, Same, fracs, add, mul}
use Rattle.rb_frac.specs.Pairs.{dot, PairsRelate}
use Rattle.rb_frac.specs.Spatial.{Motion, Force, Spatials, Motions}
use Rattle.rb_frac.specs.Mechanics.{plus, scaled}
use Rattle.rb_frac.proofs.Rational.{cls, cls-zero, exact, qo, rats, ◌+ℚ◌}
use Rattle.rb_frac.proofs.Hom.{cls_of_add}
use Rattle.rb_frac.proofs.Sums.{sum-zero, sum_first, sum_ext}
use Rattle.rb_frac.proofs.Transfer.{cls-sum}
use Rattle.rb_num.specs.declared.interval.NumFault.{NumFault}
use Rattle.rb_num.specs.Interval.{Interval}
use Rattle.rb_num.specs.Fraction.{LiesIn}
use Rattle.rb_num.specs.Arith.{Arith, intervals, fractions}
use Rattle.rb_num.proofs.Same.{lies_in_same}
use Rattle.rb_num.proofs.Relates.{Relates, Met, dot_met}
use Rattle.rb_num.proofs.Bridges.{to_intervals, ok_met, if_answer}
use Rattle.rb_result.specs.Steps.{◌>>=◌}
use Rattle.rb_spatial.specs.Motions.{cross}
use Rattle.rb_spatial.proofs.Keep.{three_met, two_met, power_met, cross_met}
use Rattle.rb_spatial.proofs.Identities.{power-sum}
use Rattle.rb_flat.specs.Dynamics.{none, spatial_sum}
use Rattle.rb_flat.specs.Joint.{JointChoice, chosen_column, joint_column}
use Rattle.rb_joint.specs.declared.any.AnyJoint.{AnyJoint}
use Rattle.rb_joint.specs.declared.any.AnyJoint.TheVariants.{Fixed, Revolute, Continuous, Prismatic, Planar, Free}
use Rattle.rb_joint.specs.Any.{kind_of, IsOfModel, any_column}
use Rattle.rb_joint.specs.Models.{entry_at}
use Rattle.rb_joint.specs.Columns.{part_pairs, columns_motion, joint_motion, joint_power, joint_turning, EnclosesMotion, EnclosesColumnPower, EnclosesTurning}
use Rattle.rb_joint.proofs.Choices.{vectors_same, revolute_column, continuous_column, prismatic_column, planar_column_lies, free_column_lies}

-- ---- it keeps each relation that the operations keep
parts_rel : {R Q : Arith} (K : Relates R Q) (p : ℕ → R.N) (p' : ℕ → Q.N) (xs : List R.N) (ys : List Q.N) → ((k : ℕ) → K.rel (p k) (p' k)) → AllZip K.rel xs ys
    → PairsRelate K.rel (part_pairs p xs) (part_pairs p' ys)
parts_rel K p p' [] [] h l = tt
parts_rel K p p' (x ∷ xs) (y ∷ ys) h l = (l.0, h 0, parts_rel K (λ k. p (suc k)) (λ k. p' (suc k)) xs ys (λ k. h (suc k)) l.1)
parts_rel K p p' [] (y ∷ ys) h l = absurd l
parts_rel K p p' (x ∷ xs) [] h l = absurd l

pub columns_motion_met : {R Q : Arith} (K : Relates R Q) (column : ℕ → Motion R.N) (column' : ℕ → Motion Q.N) (xs : List R.N) (ys : List Q.N)
    → ((k : ℕ) → Spatials K.rel (column k) (column' k)) → AllZip K.rel xs ys → Met K (Spatials K.rel) (columns_motion R column xs) (columns_motion Q column' ys)
unfolding columns_motion
columns_motion_met K column column' xs ys h l =
    two_met K
    (three_met K
    (dot_met K _ _ (parts_rel K (λ k. (column k).lin.x) (λ k. (column' k).lin.x) xs ys (λ k. (h k).lin.x) l))
    (dot_met K _ _ (parts_rel K (λ k. (column k).lin.y) (λ k. (column' k).lin.y) xs ys (λ k. (h k).lin.y) l))
    (dot_met K _ _ (parts_rel K (λ k. (column k).lin.z) (λ k. (column' k).lin.z) xs ys (λ k. (h k).lin.z) l)))
    (three_met K
    (dot_met K _ _ (parts_rel K (λ k. (column k).ang.x) (λ k. (column' k).ang.x) xs ys (λ k. (h k).ang.x) l))
    (dot_met K _ _ (parts_rel K (λ k. (column k).ang.y) (λ k. (column' k).ang.y) xs ys (λ k. (h k).ang.y) l))
    (dot_met K _ _ (parts_rel K (λ k. (column k).ang.z) (λ k. (column' k).ang.z) xs ys (λ k. (h k).ang.z) l)))

-- ---- at fractions it is the sum of the columns, each times its rate
listed : {A : Type 0} → (ℕ → A) → ℕ → List A
listed f zero = []
listed f (suc n) = f 0 ∷ listed (λ k. f (suc k)) n

parts_sum : (p rate : ℕ → Frac) (n : ℕ) → cls (dot fracs (part_pairs p (listed rate n))) ≡ sum qo n (λ k. cls (mul (rate k) (p k)))
unfolding dot listed
parts_sum p rate zero = cls-zero ∙ sym (sum-zero qo (λ k. cls (mul (rate k) (p k))))
parts_sum p rate (suc n) =
    cls_of_add (mul (rate 0) (p 0)) (dot fracs (part_pairs (λ k. p (suc k)) (listed (λ k. rate (suc k)) n)))
    ∙ ap (λ t. cls (mul (rate 0) (p 0)) +ℚ t) (parts_sum (λ k. p (suc k)) (λ k. rate (suc k)) n)
    ∙ sym (sum_first rats n (λ k. cls (mul (rate k) (p k))))

part_of_sum : (part : Motion Frac → Frac) → part (none fracs) ≡ fracs.nul → ((a b : Motion Frac) → part (plus fracs a b) ≡ add (part a) (part b))
    → (n : ℕ) (f : ℕ → Motion Frac) → part (spatial_sum fracs n f) ≡ sum fracs n (λ k. part (f k))
unfolding spatial_sum sum
part_of_sum part o h zero f = o
part_of_sum part o h (suc n) f = h (spatial_sum fracs n f) (f n) ∙ ap (λ t. add t (part (f n))) (part_of_sum part o h n f)

part_same : (part : Motion Frac → Frac) → part (none fracs) ≡ fracs.nul → ((a b : Motion Frac) → part (plus fracs a b) ≡ add (part a) (part b))
    → ((x : Frac) (a : Motion Frac) → part (scaled fracs x a) ≡ mul x (part a)) → (column : ℕ → Motion Frac) (rate : ℕ → Frac) (n : ℕ)
    → Same (dot fracs (part_pairs (λ k. part (column k)) (listed rate n))) (part (spatial_sum fracs n (λ k. scaled fracs (rate k) (column k))))
part_same part o h s column rate n =
    exact _ _
    (parts_sum (λ k. part (column k)) rate n
    ∙ sym (cls-sum n (λ k. mul (rate k) (part (column k))))
    ∙ ap cls (sum_ext fracs n (λ k. mul (rate k) (part (column k))) (λ k. part (scaled fracs (rate k) (column k))) (λ k l. sym (s (rate k) (column k))))
    ∙ ap cls (sym (part_of_sum part o h n (λ k. scaled fracs (rate k) (column k)))))

columns_same : (column : ℕ → Motion Frac) (rate : ℕ → Frac) (n : ℕ)
    → Motions Same (columns_motion fractions column (listed rate n)) (spatial_sum fracs n (λ k. scaled fracs (rate k) (column k)))
unfolding columns_motion plus scaled vadd vscale
columns_same column rate n = record {
  lin = record {
    x = part_same (λ m. m.lin.x) refl (λ a b. refl) (λ x a. refl) column rate n;
    y = part_same (λ m. m.lin.y) refl (λ a b. refl) (λ x a. refl) column rate n;
    z = part_same (λ m. m.lin.z) refl (λ a b. refl) (λ x a. refl) column rate n;
  };
  ang = record {
    x = part_same (λ m. m.ang.x) refl (λ a b. refl) (λ x a. refl) column rate n;
    y = part_same (λ m. m.ang.y) refl (λ a b. refl) (λ x a. refl) column rate n;
    z = part_same (λ m. m.ang.z) refl (λ a b. refl) (λ x a. refl) column rate n;
  };
}

-- ---- what lies in it
pub spatials_same : {u v : Motion Frac} {w : Motion Interval} → Spatials Same u v → Spatials LiesIn u w → Spatials LiesIn v w
spatials_same s h = record { lin = vectors_same s.lin h.lin; ang = vectors_same s.ang h.ang }

pub column_lies : (joint : AnyJoint) (c : JointChoice) (k : ℕ) → IsOfModel joint c → Motions LiesIn (chosen_column (kind_of joint) c k) (any_column joint k)
unfolding any_column chosen_column joint_column
column_lies (Fixed m) c k h =
    let o = to_intervals.zero in
    record { lin = record { x = o; y = o; z = o }; ang = record { x = o; y = o; z = o } }
column_lies (Revolute m) c k h = (revolute_column m.frame m.axis k _ refl).at c h
column_lies (Continuous m) c k h = (continuous_column m.frame m.axis k _ refl).at c h
column_lies (Prismatic m) c k h = (prismatic_column m.frame m.axis k _ refl).at c h
column_lies (Planar m) c k h = (planar_column_lies m.frame k _ refl).at c h
column_lies (Free m) c k h = (free_column_lies m.frame k _ refl).at c h

rates_lie : (rate : ℕ → Frac) (rates : List Interval) → ((k : ℕ) → k < length rates → LiesIn (rate k) (entry_at rates k)) → AllZip LiesIn (listed rate (length rates)) rates
unfolding listed
rates_lie rate [] h = tt
rates_lie rate (x ∷ xs) h = (h 0 (omega arith), rates_lie (λ k. rate (suc k)) xs (λ k l. h (suc k) (omega arith)))

pub motion_lies : (joint : AnyJoint) (rates : List Interval) (m : Motion Interval) → joint_motion joint rates ≡ Ok m → EnclosesMotion joint rates m
motion_lies joint rates m e = record {
  at = λ c rate h l.
      spatials_same (columns_same (chosen_column (kind_of joint) c) rate (length rates))
      (ok_met e (columns_motion_met to_intervals (chosen_column (kind_of joint) c) (any_column joint) (listed rate (length rates)) rates (λ k. column_lies joint c k h) (rates_lie rate rates l)));
}

pub power_lies : (joint : AnyJoint) (k : ℕ) (f : Force Interval) (x : Interval) → joint_power joint k f ≡ Ok x → EnclosesColumnPower joint k f x
power_lies joint k f x e = record {
  at = λ c p h l. lies_in_same _ _ _ (power-sum (chosen_column (kind_of joint) c k) p) (ok_met e (power_met to_intervals (column_lies joint c k h) l));
}

pub motion_encloses : (joint : AnyJoint) (rates : List Interval) (r : Result (Motion Interval) NumFault) → r ≡ joint_motion joint rates → IfOk r (EnclosesMotion joint rates)
motion_encloses joint rates r e = if_answer r (EnclosesMotion joint rates) (λ m k. motion_lies joint rates m (sym e ∙ k))

pub power_encloses : (joint : AnyJoint) (k : ℕ) (f : Force Interval) (r : Result Interval NumFault) → r ≡ joint_power joint k f → IfOk r (EnclosesColumnPower joint k f)
power_encloses joint k f r e = if_answer r (EnclosesColumnPower joint k f) (λ x h. power_lies joint k f x (sym e ∙ h))

turning_lies : (joint : AnyJoint) (v : Motion Interval) (rates : List Interval) (m : Motion Interval) → joint_turning joint v rates ≡ Ok m → EnclosesTurning joint v rates m
turning_lies joint v rates m e = go (joint_motion joint rates) refl e
  where
    go : (n : Result (Motion Interval) NumFault) → joint_motion joint rates ≡ n → (n >>= λ j. cross intervals v j) ≡ Ok m → EnclosesTurning joint v rates m
    go (Ok j) en em = record { at = λ c p rate h hp l. ok_met em (cross_met to_intervals hp ((motion_lies joint rates j en).at c rate h l)) }
    go (Err f) en em = absurd (cc)

pub turning_encloses : (joint : AnyJoint) (v : Motion Interval) (rates : List Interval) (r : Result (Motion Interval) NumFault) → r ≡ joint_turning joint v rates → IfOk r (EnclosesTurning joint v rates)
turning_encloses joint v rates r e = if_answer r (EnclosesTurning joint v rates) (λ m k. turning_lies joint v rates m (sym e ∙ k))
