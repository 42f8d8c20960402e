-- The answer of a row is that of any values that it leaves, and there are such values where it answers.
use Rattle.std.proofs.Common.{◌≡◌, List, Result, Ok, Err, OnOk, IfErr, ap, sym, ◌∙◌, refl, subst}
use Rattle.rb_num.specs.Interval.{Interval}
use Rattle.rb_work.specs.View.{View, Extent, extent_of}
use Rattle.rb_work.specs.declared.names.RowFault.{RowFault}
use Rattle.rb_sweep.specs.Sweep.{Answers}
use Rattle.rb_work.proofs.Sizes.{Sizes, sizes_of, sizes_for}
use Rattle.rb_tree.specs.Robot.{Tree, AreBodies}
use Rattle.rb_tree.specs.State.{Row}
use Rattle.rb_rnea.specs.Dynamics.{extent_for}
use Rattle.rb_rnea.proofs.RowPass.{HasRoom, room}
use Rattle.rb_aba.specs.Forward.{AllLead, AreFirst, AreForward, IsRefused, accelerations_in, answer_of, HasOneAnswer, AnswerMeans}
use Rattle.rb_aba.proofs.RowAnswer.{same_accelerations, either, one_refused, first_answer, answer_refused, Found, found_first, refused_of}
use Rattle.rb_aba.proofs.RowRun.{forward_for}

module _ (tree : Tree) (row : Row) (kept : AreBodies tree.bodies) (lead : AllLead tree) where
  ok : List Interval → Result (List Interval) RowFault
  ok xs = Ok xs

  as_first : (w : View) (h : AreForward tree row w) → accelerations_in tree w ≡ accelerations_in tree h.first
  as_first w h = subst (λ (v : View). accelerations_in tree v ≡ accelerations_in tree h.first) (sym h.rest) refl

  pub one_answer : HasOneAnswer tree row
  one_answer = record {
    values = λ u w hu hw. as_first u hu ∙ same_accelerations tree row kept lead hu.first hw.first hu.found hw.found ∙ sym (as_first w hw);
    either = λ w e h r. either tree row kept lead h.first e h.found r;
    refusal = one_refused tree row kept lead;
  }

  answer_is : (t : View) → AreForward tree row t → answer_of tree row ≡ Ok (accelerations_in tree t)
  unfolding ok
  answer_is t h = first_answer tree row kept lead h.first h.found ∙ ap ok (sym (as_first t h))

  pub told_answer : {A : Type 0} (r : Result A RowFault) (t : View) → OnOk r (AreForward tree row t) → IfErr r (IsRefused tree row) → Answers r (answer_of tree row) (accelerations_in tree t)
  told_answer (Ok x) t h k = answer_is t h
  told_answer (Err e) t h k = answer_refused tree row kept lead e k

  values_of : (numbers : List Interval) → answer_of tree row ≡ Ok numbers → (w : View) × AreForward tree row w × (accelerations_in tree w ≡ numbers)
  values_of numbers e =
      let h : Found tree row kept lead numbers = found_first tree row kept lead numbers e in
      let extent : extent_of h.values ≡ extent_for tree = ap (λ (z : Sizes). z.extent) h.fits in
      let w = forward_for tree row kept lead h.values (h.fits ∙ ap sizes_for (sym extent)) (subst (HasRoom tree) (sym extent) (room tree row kept)) h.are in
      (w.0, w.1, as_first w.0 w.1 ∙ same_accelerations tree row kept lead w.1.first h.values w.1.found h.are ∙ h.same)

  pub answer_means : AnswerMeans tree row
  unfolding ok
  answer_means = record {
    values = λ numbers. (values_of numbers, λ h. answer_is h.0 h.1 ∙ ap ok h.2);
    refused = λ e. (refused_of tree row kept lead e, answer_refused tree row kept lead e);
  }
