-- What a call's answer says, by its rule.
use Rattle.std.proofs.Common.{◌≡◌, Result, Ok, Err, OnOk, IfErr}
use Rattle.rb_sweep.specs.Sweep.{Answers}

pub told_ok : {A S E : Type 0} (r : Result A E) (rule : Result S E) (t : S) (P : S → Type 0) → Answers r rule t → ((u : S) → rule ≡ Ok u → P u) → OnOk r (P t)
told_ok (Ok x) rule t P a h = h t a
told_ok (Err e) rule t P a h = tt

pub told_err : {A S E : Type 0} (r : Result A E) (rule : Result S E) (t : S) (P : E → Type 0) → Answers r rule t → ((e : E) → rule ≡ Err e → P e) → IfErr r P
told_err (Ok x) rule t P a h = tt
told_err (Err e) rule t P a h = h e a
