-- The values of states, joint by joint and word by word.
use Rattle.std.proofs.Common.{◌≡◌, ℕ, List, [], ◌∷◌, ◌++◌, Err, refl}
use Rattle.rb_srdf.specs.declared.faults.SrdfFaultKind.TheVariants.{BadNumber}
use Rattle.std.specs.Prelude.{codes}
use Rattle.rb_srdf.specs.Names.{name_in}
use Rattle.rb_srdf.specs.ReadStates.{number_in, numbers_in, numbers_after, value_in, values_after, all_named}
use Rattle.rb_srdf.proofs.Passes.{IsPass}

pub numbers_pass : IsPass (λ numbers word. number_in word) (λ numbers number. numbers ++ number ∷ []) numbers_after
unfolding numbers_after
numbers_pass = record { none = λ numbers. refl; more = λ numbers word words. refl }

pub values_pass : IsPass (λ values element. value_in element) (λ values value. values ++ value ∷ []) values_after
unfolding values_after
values_pass = record { none = λ values. refl; more = λ values e es. refl }

pub named_pass : IsPass {X = Unit {0}} (λ done element. name_in (codes "name") element) (λ done name. tt) (λ done elements. all_named elements)
unfolding all_named
named_pass = record { none = λ done. refl; more = λ done e es. refl }

pub numbers-none : (words : List (List ℕ)) → words ≡ [] → numbers_in words ≡ Err BadNumber
unfolding numbers_in
numbers-none words none = rw none refl

pub numbers-some : (words : List (List ℕ)) (word : List ℕ) (others : List (List ℕ)) → words ≡ word ∷ others → numbers_in words ≡ numbers_after [] words
unfolding numbers_in
numbers-some words word others some = rw some refl
