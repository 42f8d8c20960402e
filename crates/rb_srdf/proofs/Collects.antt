-- Values that are made of items one by one.
use Rattle.std.proofs.Common.{◌≡◌, List, [], ◌∷◌, ◌++◌, Result, Ok, sym, ap, ◌∙◌, subst, append_assoc}
use Rattle.std.specs.Prelude.{Any}
use Rattle.std.specs.List.{AllZip, AllByRecursion}
use Rattle.std.proofs.lemmas.List.{append-nil}
use Rattle.rb_result.specs.Steps.{◌>>=◌}
use Rattle.rb_tags.specs.InOrder.{◌when◌}
use Rattle.rb_result.proofs.Results.{then-ok}
use Rattle.rb_tags.proofs.Obeying.{Obeys, obeys-ok, obeys-next, obeys-either, obeys-same}
use Rattle.rb_srdf.proofs.Lists.{any-join, any-cases, any-none}

-- each item gives a value, or its fault
pub record IsCollect {A B K : Type 0} (after : List A → List B → Result (List A) K) (step : B → Result A K) : Type 0 where
  pub none : (xs : List A) → after xs [] ≡ Ok xs
  pub more : (xs : List A) (y : B) (ys : List B) → after xs (y ∷ ys) ≡ (step y >>= λ x. after (xs ++ x ∷ []) ys)

module _ {A B K : Type 0} {after : List A → List B → Result (List A) K} {step : B → Result A K} (collect : IsCollect after step) (R : B → A → Type 0) where
  pub collect-says : ((y : B) (x : A) → step y ≡ Ok x → R y x) → (done : List A) (ys : List B) (all : List A) → after done ys ≡ Ok all → (xs : List A) × (all ≡ done ++ xs) × AllZip R ys xs
  collect-says says done [] all h = let same : done ≡ all = let e = sym (collect.none done) ∙ h in cc in ([], sym same ∙ sym (append-nil done), tt)
  collect-says says done (y ∷ ys) all h =
      let p = then-ok (step y) _ all (sym (collect.more done y ys) ∙ h) in
      let rest = collect-says says (done ++ p.0 ∷ []) ys all p.2 in
      (p.0 ∷ rest.0, rest.1 ∙ append_assoc done (p.0 ∷ []) rest.0, (says y p.0 p.1, rest.2))

  pub collect-read : ((y : B) (x : A) → R y x → step y ≡ Ok x) → (done : List A) (ys : List B) (xs : List A) → AllZip R ys xs → after done ys ≡ Ok (done ++ xs)
  collect-read read done [] [] each = collect.none done ∙ ap Ok (sym (append-nil done))
  collect-read read done [] (x ∷ xs) each = absurd each
  collect-read read done (y ∷ ys) [] each = absurd each
  collect-read read done (y ∷ ys) (x ∷ xs) each =
      collect.more done y ys ∙ rw (read y x each.0) (collect-read read (done ++ x ∷ []) ys xs each.1 ∙ ap Ok (append_assoc done (x ∷ []) xs))

-- each item has one kind of fault, where one fact holds of it
module _ {A B K : Type 0} {after : List A → List B → Result (List A) K} {step : B → Result A K} (collect : IsCollect after step) (kind : K) (P : B → Type 0) where
  pub collect-obeys : (done : List A) (ys : List B) → AllByRecursion (λ y. Obeys (kind when P y ∷ []) (step y)) ys → Obeys (kind when Any P ys ∷ []) (after done ys)
  collect-obeys done [] each = subst (Obeys (kind when Any P [] ∷ [])) (sym (collect.none done)) (obeys-ok (kind when Any P [] ∷ []) done (any-none P, tt))
  collect-obeys done (y ∷ ys) each =
      subst (Obeys (kind when Any P (y ∷ ys) ∷ [])) (sym (collect.more done y ys))
      (obeys-same
      (any-join P y ys)
      (any-cases P y ys)
      (obeys-either
      (obeys-next (step y) _ each.0 (λ x e. collect-obeys (done ++ x ∷ []) ys each.1))))
