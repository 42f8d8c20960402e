-- What forward dynamics finds from zeros, and what its answer means.
use Rattle.std.proofs.Common.{◌≡◌, ◌≤◌, ◌+◌, List, length, Result, Ok, Err, OnOk, IfErr, inl, inr, refl, sym, ap, ◌∙◌, subst, arith}
use Rattle.rb_num.specs.Interval.{Interval}
use Rattle.rb_result.specs.Steps.{◌>>=◌}
use Rattle.rb_result.proofs.Results.{same_ok, then-ok, then-err, not-both}
use Rattle.rb_sweep.specs.Sweep.{Answers}
use Rattle.rb_work.specs.declared.names.RowFault.{RowFault}
use Rattle.rb_work.specs.Path.{Ascends}
use Rattle.rb_work.specs.View.{View, IsSized}
use Rattle.rb_tree.specs.Robot.{Tree, AreBodies}
use Rattle.rb_tree.specs.State.{Row}
use Rattle.rb_factor.specs.Factor.{HoldsDivisors}
use Rattle.rb_factor.specs.Solve.{HoldsSolution, IsSolveRefused, RefusesSolve}
use Rattle.rb_factor.specs.Sweeps.{number_at, reduce_of, divide_of, substitute_of}
use Rattle.rb_factor.proofs.Reducing.{reduced, reduction_refused}
use Rattle.rb_factor.proofs.Finding.{divided, division_refused, substituted, substitution_refused}
use Rattle.rb_contact.specs.Forward.{AreForward, IsForwardRefused, accelerations_in, solved_of, forward_of, HasOneForward, ForwardMeans, prepared_of}
use Rattle.rb_contact.proofs.OneForward.{has_one_forward}
use Rattle.rb_contact.proofs.Assembled.{divisors_driven, forward_from, solution_refused}
use Rattle.rb_contact.proofs.Prepared.{prepared_found, prepared_refused}

-- each list of columns of the work has a place for each
record HasLists (d : View) : Type 0 where
  ascends : Ascends d.up
  w : length d.w ≡ length d.up + 1
  z : length d.z ≡ length d.up + 1
  x : length d.x ≡ length d.up + 1

record SolutionFound (d w : View) : Type 0 where
  rest : w ≡ record d { w = w.w; z = w.z; x = w.x }
  holds : HoldsSolution d w

module _ (d : View) (lists : HasLists d) where
  behind_quotients : List Interval → List Interval → Result View RowFault
  behind_quotients right quotients = substitute_of d.up d.packed quotients d.x >>= λ numbers. Ok (record d { w = right; z = quotients; x = numbers })

  behind_right : List Interval → Result View RowFault
  behind_right right = divide_of d.up d.packed right d.z >>= λ quotients. behind_quotients right quotients

  solution_found : (w : View) → solved_of d ≡ Ok w → SolutionFound d w
  unfolding behind_quotients behind_right
  solution_found w e =
      let first = then-ok (reduce_of d.up d.packed d.w) (λ right. behind_right right) w e in
      let second = then-ok (divide_of d.up d.packed first.0 d.z) (λ quotients. behind_quotients first.0 quotients) w first.2 in
      let third = then-ok (substitute_of d.up d.packed second.0 d.x) (λ numbers. Ok (record d { w = first.0; z = second.0; x = numbers })) w second.2 in
      let right = reduced d.up lists.ascends d.packed d.w first.0 first.1 lists.w in
      let numbers = substituted d.up lists.ascends d.packed second.0 d.x third.0 third.1 lists.x in
      subst (λ (v : View). SolutionFound d v) (same_ok {E = RowFault} (record d { w = first.0; z = second.0; x = third.0 }) w third.2)
      (record {
        rest = refl;
        holds = record {
          left = right.0;
          part = numbers.0;
          reduced = right.1;
          divided = divided d.up lists.ascends d.packed first.0 d.z second.0 second.1 lists.z;
          substituted = numbers.1;
        };
      })

  solution_not_found : (e : RowFault) → HoldsDivisors d → solved_of d ≡ Err e → RefusesSolve d e
  unfolding behind_quotients behind_right
  solution_not_found e divisors r =
      let ok : View → Result View RowFault = λ v. Ok v in
      elim (then-err (reduce_of d.up d.packed d.w) (λ right. behind_right right) e r) [
        | inl h ↦ IsSolveRefused.by_reduce (reduction_refused d.up lists.ascends d.packed d.w e h lists.w)
        | inr h ↦
            let right = reduced d.up lists.ascends d.packed d.w h.0 h.1 lists.w in
            elim (then-err (divide_of d.up d.packed h.0 d.z) (λ quotients. behind_quotients h.0 quotients) e h.2) [
              | inl k ↦ IsSolveRefused.by_divide right.0 (number_at h.0) right.1 (division_refused d.up lists.ascends d.packed h.0 d.z e k divisors)
              | inr k ↦ elim (then-err (substitute_of d.up d.packed k.0 d.x) (λ numbers. ok (record d { w = h.0; z = k.0; x = numbers })) e k.2) [
                | inl j ↦
                    IsSolveRefused.by_substitute right.0 (number_at h.0) (number_at k.0) right.1
                    (divided d.up lists.ascends d.packed h.0 d.z k.0 k.1 lists.z) (substitution_refused d.up lists.ascends d.packed k.0 d.x e j lists.x)
                | inr j ↦ let v : View = record d { w = h.0; z = k.0; x = j.0 } in absurd (not-both (ok v) v e refl j.2)
              ]
            ]
      ]

-- ---- a row
module _ (tree : Tree) (row : Row) (kept : AreBodies tree.bodies) where
  lists_of : (d : View) → IsSized d → HasLists d
  lists_of d sized = record { ascends = sized.extent.ascends; w = sized.w; z = sized.z; x = sized.x }

  answer : View → Result (List Interval) RowFault
  answer w = Ok (accelerations_in tree w)

  from_driven : View → Result (List Interval) RowFault
  from_driven d = solved_of d >>= λ w. answer w

  whole : forward_of tree row ≡ (prepared_of tree row 0 >>= λ d. from_driven d)
  unfolding forward_of answer from_driven
  whole = refl

  few : 0 ≤ 64
  few = omega arith

  forward_found : (numbers : List Interval) → forward_of tree row ≡ Ok numbers → (w : View) × AreForward tree row w × (accelerations_in tree w ≡ numbers)
  unfolding answer from_driven
  forward_found numbers e =
      let d = then-ok (prepared_of tree row 0) (λ d. from_driven d) numbers (sym whole ∙ e) in
      let s = then-ok (solved_of d.0) (λ w. answer w) numbers d.2 in
      let p = prepared_found tree row kept 0 few d.0 d.1 in
      let h = solution_found d.0 (lists_of d.0 p.sized) s.0 s.1 in
      (s.0, forward_from tree row d.0 s.0 p.factored p.driving p.right h.rest h.holds, same_ok {E = RowFault} (accelerations_in tree s.0) numbers s.2)

  forward_refused : (e : RowFault) → forward_of tree row ≡ Err e → IsForwardRefused tree row e
  unfolding answer from_driven
  forward_refused e r =
      elim (then-err (prepared_of tree row 0) (λ d. from_driven d) e (sym whole ∙ r)) [
        | inl h ↦ IsForwardRefused.in_preparation (prepared_refused tree row kept 0 few e h)
        | inr d ↦
            let p = prepared_found tree row kept 0 few d.0 d.1 in
            elim (then-err (solved_of d.0) (λ w. answer w) e d.2) [
              | inl h ↦
                  solution_refused tree row d.0 e p.factored p.driving p.right (solution_not_found d.0 (lists_of d.0 p.sized) e (divisors_driven tree row d.0 p.factored) h)
              | inr s ↦ absurd (not-both (answer s.0) (accelerations_in tree s.0) e refl s.2)
            ]
      ]

  -- ---- what the answer means, as there is one
  one : HasOneForward tree row
  one = has_one_forward tree row kept

  ok : List Interval → Result (List Interval) RowFault
  ok xs = Ok xs

  pub forward_is : (w : View) → AreForward tree row w → forward_of tree row ≡ Ok (accelerations_in tree w)
  unfolding ok
  forward_is w h = go (forward_of tree row) refl
    where
      go : (r : Result (List Interval) RowFault) → forward_of tree row ≡ r → r ≡ Ok (accelerations_in tree w)
      go (Ok xs) e = let f = forward_found xs e in ap ok (sym f.2 ∙ one.values f.0 w f.1 h)
      go (Err e) r = absurd (one.either w e h (forward_refused e r))

  pub refused_is : (e : RowFault) → IsForwardRefused tree row e → forward_of tree row ≡ Err e
  refused_is e h = go (forward_of tree row) refl
    where
      go : (r : Result (List Interval) RowFault) → forward_of tree row ≡ r → r ≡ Err e
      go (Ok xs) q = let f = forward_found xs q in absurd (one.either f.0 e f.1 h)
      go (Err d) q =
          let fault : RowFault → Result (List Interval) RowFault = λ e. Err e in
          ap fault (one.refusal d e (forward_refused d q) h)

  pub told_forward : {A : Type 0} (r : Result A RowFault) (t : View) → OnOk r (AreForward tree row t) → IfErr r (IsForwardRefused tree row)
      → Answers r (forward_of tree row) (accelerations_in tree t)
  told_forward (Ok x) t h k = forward_is t h
  told_forward (Err e) t h k = refused_is e k

  pub forward_means : ForwardMeans tree row
  unfolding ok
  forward_means = record {
    values = λ numbers. (forward_found numbers, λ h. forward_is h.0 h.1 ∙ ap ok h.2);
    refused = λ e. (forward_refused e, refused_is e);
  }
