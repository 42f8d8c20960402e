-- The first group that holds itself.
use Rattle.std.proofs.Common.{◌≡◌, inl, inr, ℕ, zero, suc, ◌+◌, ◌<◌, List, [], ◌∷◌, ◌++◌, length, slice_get, Some, refl, sym, ap, ◌∙◌, subst, arith, append_assoc}
use Rattle.std.specs.List.{AllZip}
use Rattle.std.proofs.lemmas.Bool.{cases_lt}
use Rattle.std.proofs.lemmas.List.{length-append}
use Rattle.rb_tags.specs.InOrder.{IsFirst}
use Rattle.rb_tags.specs.Elements.{Element}
use Rattle.rb_srdf.specs.declared.faults.SrdfFault.{SrdfFault}
use Rattle.rb_srdf.specs.declared.faults.SrdfFaultKind.TheVariants.{GroupLoop}
use Rattle.rb_srdf.specs.declared.srdf.Group.{Group}
use Rattle.rb_srdf.specs.Faults.{fault_at}
use Rattle.rb_srdf.specs.Groups.{HoldsItself, IsFirstLoop}
use Rattle.rb_srdf.specs.Read.{HasGroupLoop}
use Rattle.rb_srdf.specs.Profile.{IsGroup}
use Rattle.rb_srdf.specs.Refusals.{IsInLoop, loop_refusals, in_order}
use Rattle.rb_srdf.proofs.GroupLaws.{one-group}

-- elements describe one list of groups
one-list : (elements : List Element) (a b : List Group) → AllZip IsGroup elements a → AllZip IsGroup elements b → a ≡ b
one-list [] [] [] p q = refl
one-list [] [] (y ∷ b) p q = absurd q
one-list [] (x ∷ a) b p q = absurd p
one-list (e ∷ elements) [] b p q = absurd p
one-list (e ∷ elements) (x ∷ a) [] p q = absurd q
one-list (e ∷ elements) (x ∷ a) (y ∷ b) p q = rw (one-group e x y p.0 q.0) (ap (λ gs. y ∷ gs) (one-list elements a b p.1 q.1))

at-seam : (done rest : List Group) (group : Group) → slice_get (done ++ group ∷ rest) (length done) ≡ Some group
at-seam [] rest group = refl
at-seam (x ∷ done) rest group = at-seam done rest group

module _ (groups : List Element) (read : List Group) (are : AllZip IsGroup groups read) where
  in-loop : (count : ℕ) → IsInLoop groups count → HoldsItself read count
  in-loop count h = subst (λ gs. HoldsItself gs count) (one-list groups h.read read h.are are) h.loop

  -- the loop at one of these is told first

  first-told : (before : List Element) (left : List Element) (rest : List Group) → AllZip IsGroup left rest → (n k : ℕ) (group : Group) → n ≡ length before + k → slice_get rest k ≡ Some group → IsFirstLoop read n → (fault : SrdfFault) → fault ≡ fault_at GroupLoop group.place → IsFirst (in_order (loop_refusals groups) before left) fault
  first-told before [] [] each n k group at there first fault told = absurd cc
  first-told before [] (g ∷ rest) each n k group at there first fault told = absurd each
  first-told before (e ∷ left) [] each n k group at there first fault told = absurd each
  first-told before (e ∷ left) (g ∷ rest) each n zero group at there first fault told =
      let same : g ≡ group = cc in
      let here : n ≡ length before = omega arith in
      inl (record { read = read; are = are; loop = subst (HoldsItself read) here first.loop }, told ∙ ap (fault_at GroupLoop) (ap (λ (x : Group). x.place) (sym same) ∙ each.0.place))
  first-told before (e ∷ left) (g ∷ rest) each n (suc k) group at there first fault told =
      inr (
        λ h. first.first (length before) (omega arith) (in-loop (length before) h),
        first-told (before ++ e ∷ []) left rest each.1 n k group (omega (arith, length-append before (e ∷ []))) there first fault told,
      )

  pub loop-first : (fault : SrdfFault) → HasGroupLoop read fault → IsFirst (in_order (loop_refusals groups) [] groups) fault
  loop-first fault h = first-told [] groups read are h.number h.number h.group (omega arith) h.there h.first fault h.told

  -- what is told first is the first loop

  told-first : (before : List Element) (done : List Group) (left : List Element) (rest : List Group) → read ≡ done ++ rest → length done ≡ length before → AllZip IsGroup left rest → ((j : ℕ) → j < length before → HoldsItself read j → ⊥) → (fault : SrdfFault) → IsFirst (in_order (loop_refusals groups) before left) fault → HasGroupLoop read fault
  told-first before done [] [] all size each none fault first = absurd first
  told-first before done [] (g ∷ rest) all size each none fault first = absurd each
  told-first before done (e ∷ left) [] all size each none fault first = absurd each
  told-first before done (e ∷ left) (g ∷ rest) all size each none fault (inl here) = record {
    number = length before;
    group = g;
    there = subst (λ n. slice_get read n ≡ Some g) size (rw all (at-seam done rest g));
    first = record { within = subst (λ n. n < length read) size (rw all (omega (arith, length-append done (g ∷ rest)))); loop = in-loop (length before) here.0; first = none };
    told = here.1 ∙ ap (fault_at GroupLoop) (sym each.0.place);
  }
  told-first before done (e ∷ left) (g ∷ rest) all size each none fault (inr later) =
      told-first (before ++ e ∷ []) (done ++ g ∷ []) left rest (all ∙ sym (append_assoc done (g ∷ []) rest)) (length-append done (g ∷ []) ∙ ap (λ n. n + 1) size ∙ sym (length-append before (e ∷ []))) each.1
      (λ j lt h. elim (cases_lt j (length before)) [
        | inl earlier ↦ none j earlier h
        | inr last ↦
            let here : j ≡ length before = omega (arith, length-append before (e ∷ [])) in
            later.0 (record { read = read; are = are; loop = subst (HoldsItself read) here h })
      ])
      fault later.1

  pub first-loop : (fault : SrdfFault) → IsFirst (in_order (loop_refusals groups) [] groups) fault → HasGroupLoop read fault
  first-loop fault first = told-first [] [] groups read refl refl are (λ j lt. absurd (omega arith)) fault first
