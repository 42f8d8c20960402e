-- A call that answers as its rule over intervals encloses the rule at fractions.
use Rattle.std.proofs.Common.{◌≡◌, ℕ, Result, IfOk, sym, ◌∙◌}
use Rattle.rb_num.specs.declared.interval.NumFault.{NumFault}
use Rattle.rb_num.specs.Interval.{Interval}
use Rattle.rb_num.specs.Arith.{intervals}
use Rattle.rb_num.proofs.Bridges.{to_intervals, ok_met, if_answer}
use Rattle.rb_frac.specs.Ops.{V3}
use Rattle.rb_frac.specs.Tables.{Table, Symmetric}
use Rattle.rb_frac.specs.Spatial.{Spatial, Place, BodyInertia, Inertia, entry}
use Rattle.rb_spatial.specs.Motions.{cross3, cross_twice, plus_cross, multiple, mul, apply, apply_dual, cross, cross_dual, power}
use Rattle.rb_spatial.specs.Motions.{EnclosesCross3, EnclosesCrossTwice, EnclosesPlusCross, EnclosesMultiple, EnclosesMul, EnclosesApply, EnclosesApplyDual, EnclosesCross, EnclosesCrossDual, EnclosesPower}
use Rattle.rb_spatial.specs.Inertias.{table, times, less_outer, EnclosesLessOuter, EnclosesEntry, EnclosesTable, EnclosesTimes, EnclosesTimesBody}
use Rattle.rb_spatial.specs.Carrying.{product, upper_product, carry, EnclosesProduct, EnclosesUpperProduct, EnclosesCarry}
use Rattle.rb_spatial.proofs.Keep.{cross3_met, cross_twice_met, plus_cross_met, multiple_met, mul_met, apply_met, apply_dual_met, cross_met, cross_dual_met, power_met, entry_rel, table_rel, times_met, less_outer_met, product_met, upper_product_met, carry_met}

pub cross3_encloses : (u w : V3 Interval) (n : Result (V3 Interval) NumFault) → n ≡ cross3 intervals u w → IfOk n (EnclosesCross3 u w)
cross3_encloses u w n e = if_answer n (EnclosesCross3 u w) (λ v k. record { at = λ p q hp hq. ok_met (sym e ∙ k) (cross3_met to_intervals hp hq) })

pub cross_twice_encloses : (u w s t : V3 Interval) (n : Result (V3 Interval) NumFault) → n ≡ cross_twice intervals u w s t → IfOk n (EnclosesCrossTwice u w s t)
cross_twice_encloses u w s t n e = if_answer n (EnclosesCrossTwice u w s t) (λ v k. record { at = λ p q r s hp hq hr hs. ok_met (sym e ∙ k) (cross_twice_met to_intervals hp hq hr hs) })

pub plus_cross_encloses : (o u w : V3 Interval) (n : Result (V3 Interval) NumFault) → n ≡ plus_cross intervals o u w → IfOk n (EnclosesPlusCross o u w)
plus_cross_encloses o u w n e = if_answer n (EnclosesPlusCross o u w) (λ v k. record { at = λ p q r hp hq hr. ok_met (sym e ∙ k) (plus_cross_met to_intervals hp hq hr) })

pub multiple_encloses : (k : Interval) (v : V3 Interval) (n : Result (V3 Interval) NumFault) → n ≡ multiple intervals k v → IfOk n (EnclosesMultiple k v)
multiple_encloses k v n e = if_answer n (EnclosesMultiple k v) (λ v k. record { at = λ p q hp hq. ok_met (sym e ∙ k) (multiple_met to_intervals hp hq) })

pub mul_encloses : (t : Table Interval) (v : V3 Interval) (n : Result (V3 Interval) NumFault) → n ≡ mul intervals t v → IfOk n (EnclosesMul t v)
mul_encloses t v n e = if_answer n (EnclosesMul t v) (λ v k. record { at = λ p q hp hq. ok_met (sym e ∙ k) (mul_met to_intervals hp hq) })

pub apply_encloses : (x : Place Interval) (m : Spatial Interval) (n : Result (Spatial Interval) NumFault) → n ≡ apply intervals x m → IfOk n (EnclosesApply x m)
apply_encloses x m n e = if_answer n (EnclosesApply x m) (λ v k. record { at = λ p q hp hq. ok_met (sym e ∙ k) (apply_met to_intervals hp hq) })

pub apply_dual_encloses : (x : Place Interval) (f : Spatial Interval) (n : Result (Spatial Interval) NumFault) → n ≡ apply_dual intervals x f → IfOk n (EnclosesApplyDual x f)
apply_dual_encloses x f n e = if_answer n (EnclosesApplyDual x f) (λ v k. record { at = λ p q hp hq. ok_met (sym e ∙ k) (apply_dual_met to_intervals hp hq) })

pub cross_encloses : (a b : Spatial Interval) (n : Result (Spatial Interval) NumFault) → n ≡ cross intervals a b → IfOk n (EnclosesCross a b)
cross_encloses a b n e = if_answer n (EnclosesCross a b) (λ v k. record { at = λ p q hp hq. ok_met (sym e ∙ k) (cross_met to_intervals hp hq) })

pub cross_dual_encloses : (a f : Spatial Interval) (n : Result (Spatial Interval) NumFault) → n ≡ cross_dual intervals a f → IfOk n (EnclosesCrossDual a f)
cross_dual_encloses a f n e = if_answer n (EnclosesCrossDual a f) (λ v k. record { at = λ p q hp hq. ok_met (sym e ∙ k) (cross_dual_met to_intervals hp hq) })

pub power_encloses : (m f : Spatial Interval) (n : Result Interval NumFault) → n ≡ power intervals m f → IfOk n (EnclosesPower m f)
power_encloses m f n e = if_answer n (EnclosesPower m f) (λ v k. record { at = λ p q hp hq. ok_met (sym e ∙ k) (power_met to_intervals hp hq) })

pub table_encloses : (i : BodyInertia Interval) (r : Inertia Interval) → r ≡ table intervals i → EnclosesTable i r
table_encloses i r e = record { at = λ p hp. rw e (table_rel to_intervals hp) }

pub entry_encloses : (r c : ℕ) (i : Inertia Interval) (v : Interval) → v ≡ entry i r c → EnclosesEntry r c i v
entry_encloses r c i v e = record { at = λ p hp. rw e (entry_rel to_intervals hp r c) }

pub times_encloses : (i : Inertia Interval) (m : Spatial Interval) (n : Result (Spatial Interval) NumFault) → n ≡ times intervals i m → IfOk n (EnclosesTimes i m)
times_encloses i m n e = if_answer n (EnclosesTimes i m) (λ v k. record { at = λ p q hp hq. ok_met (sym e ∙ k) (times_met to_intervals hp hq) })

pub times_body_encloses : (i : BodyInertia Interval) (m : Spatial Interval) (n : Result (Spatial Interval) NumFault) → n ≡ times intervals (table intervals i) m → IfOk n (EnclosesTimesBody i m)
times_body_encloses i m n e = if_answer n (EnclosesTimesBody i m) (λ v k. record { at = λ p q hp hq. ok_met (sym e ∙ k) (times_met to_intervals (table_rel to_intervals hp) hq) })

pub less_outer_encloses : (i : Inertia Interval) (u w : Spatial Interval) (n : Result (Inertia Interval) NumFault) → n ≡ less_outer intervals i u w → IfOk n (EnclosesLessOuter i u w)
less_outer_encloses i u w n e = if_answer n (EnclosesLessOuter i u w) (λ v k. record { at = λ p q r hp hq hr. ok_met (sym e ∙ k) (less_outer_met to_intervals hp hq hr) })

pub product_encloses : (s t : Table Interval) (n : Result (Table Interval) NumFault) → n ≡ product intervals s t → IfOk n (EnclosesProduct s t)
product_encloses s t n e = if_answer n (EnclosesProduct s t) (λ v k. record { at = λ p q hp hq. ok_met (sym e ∙ k) (product_met to_intervals hp hq) })

pub upper_product_encloses : (s t : Table Interval) (n : Result (Symmetric Interval) NumFault) → n ≡ upper_product intervals s t → IfOk n (EnclosesUpperProduct s t)
upper_product_encloses s t n e = if_answer n (EnclosesUpperProduct s t) (λ v k. record { at = λ p q hp hq. ok_met (sym e ∙ k) (upper_product_met to_intervals hp hq) })

pub carry_encloses : (x : Place Interval) (i : Inertia Interval) (n : Result (Inertia Interval) NumFault) → n ≡ carry intervals x i → IfOk n (EnclosesCarry x i)
carry_encloses x i n e = if_answer n (EnclosesCarry x i) (λ v k. record { at = λ p q hp hq. ok_met (sym e ∙ k) (carry_met to_intervals hp hq) })
