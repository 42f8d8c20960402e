-- The fault of the first step that refuses, in one list of steps behind another.
use Rattle.std.proofs.Common.{◌≡◌, ◌⊎◌, List, [], ◌∷◌, ◌++◌, inl, inr, sym, ◌∙◌, ap, subst, append_assoc}
use Rattle.std.specs.List.{AllByRecursion}
use Rattle.rb_tree.specs.declared.faults.TreeFault.{TreeFault}
use Rattle.rb_tree.specs.Build.{Source}
use Rattle.rb_tree.specs.Refusals.{Step, Refuses, Passes, IsFirstFault}

pub all_behind : {X : Type 0} (P : X → Type 0) (xs ys : List X) → AllByRecursion P xs → AllByRecursion P ys → AllByRecursion P (xs ++ ys)
all_behind P [] ys a b = b
all_behind P (x ∷ xs) ys a b = (a.0, all_behind P xs ys a.1 b)

module _ (source : Source) (fault : TreeFault) where
  -- further steps come behind
  pub first_in_front : (a b : List Step) → IsFirstFault source a fault → IsFirstFault source (a ++ b) fault
  first_in_front a b f = record {
    before = f.before;
    step = f.step;
    after = f.after ++ b;
    order_is = ap (λ l. l ++ b) f.order_is ∙ append_assoc f.before (f.step ∷ f.after) b;
    passed = f.passed;
    refused = f.refused;
  }

  -- steps that refuse nothing come before
  pub first_behind : (a b : List Step) → AllByRecursion (Passes source) a → IsFirstFault source b fault → IsFirstFault source (a ++ b) fault
  first_behind a b passed f = record {
    before = a ++ f.before;
    step = f.step;
    after = f.after;
    order_is = ap (λ l. a ++ l) f.order_is ∙ sym (append_assoc a f.before (f.step ∷ f.after));
    passed = all_behind (Passes source) a f.before passed f.passed;
    refused = f.refused;
  }

  first_of : (before : List Step) (step first : Step) (after rest : List Step) → first ∷ rest ≡ before ++ step ∷ after → AllByRecursion (Passes source) before → Refuses source step fault →
      Refuses source first fault ⊎ (Passes source first × IsFirstFault source rest fault)
  first_of [] step first after rest e passed refused =
      let same : step ≡ first = cc in
      let R : Step → Type 0 = λ s. Refuses source s fault in
      inl (subst R same refused)
  first_of (s ∷ before) step first after rest e passed refused =
      let same : s ≡ first = cc in
      let behind : rest ≡ before ++ step ∷ after = cc in
      let P : Step → Type 0 = λ s. Passes source s in
      inr (subst P same passed.0, record { before = before; step = step; after = after; order_is = behind; passed = passed.1; refused = refused })

  -- the first step refuses, or passes and one behind it refuses
  pub first_or_later : (first : Step) (rest : List Step) → IsFirstFault source (first ∷ rest) fault → Refuses source first fault ⊎ (Passes source first × IsFirstFault source rest fault)
  first_or_later first rest f = first_of f.before f.step first f.after rest f.order_is f.passed f.refused

  none_empty : (before : List Step) (step : Step) (after : List Step) → [] ≡ before ++ step ∷ after → ⊥
  none_empty [] step after e = cc
  none_empty (s ∷ before) step after e = cc

  pub no_step : IsFirstFault source [] fault → ⊥
  no_step f = none_empty f.before f.step f.after f.order_is

  -- where all steps pass there is no fault
  pub none_first : (order : List Step) → AllByRecursion (Passes source) order → IsFirstFault source order fault → ⊥
  none_first [] passed f = no_step f
  none_first (s ∷ rest) passed f =
      elim (first_or_later s rest f) [
        | inl refused ↦ passed.0 fault refused
        | inr later ↦ none_first rest passed.1 later.1
      ]

-- where each step refuses with at most one fault there is at most one
pub one_first : (source : Source) → ((step : Step) (x y : TreeFault) → Refuses source step x → Refuses source step y → x ≡ y) → (order : List Step) (x y : TreeFault) → IsFirstFault source order x →
    IsFirstFault source order y → x ≡ y
one_first source once [] x y p q = absurd (no_step source x p)
one_first source once (s ∷ rest) x y p q =
    elim (first_or_later source x s rest p) [
      | inl refused_x ↦ elim (first_or_later source y s rest q) [
        | inl refused_y ↦ once s x y refused_x refused_y
        | inr later_y ↦ absurd (later_y.0 x refused_x)
      ]
      | inr later_x ↦ elim (first_or_later source y s rest q) [
        | inl refused_y ↦ absurd (later_x.0 y refused_y)
        | inr later_y ↦ one_first source once rest x y later_x.1 later_y.1
      ]
    ]
