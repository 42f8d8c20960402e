use Rattle.std.proofs.Common.{rules, ℕ, List, subst}
use Rattle.std.specs.Prelude.{slice_index}
use Rattle.std.specs.List.Sorted.{IsPermutation}
use Rattle.std.proofs.lemmas.List.Sorted.{IsNonDecreasingBy-from_sort_by_key}
use Rattle.rb_srdf.proofs.loops.sorted_by.Goals as goal

pub returns-clause-moved : goal.returns-clause-moved
returns-clause-moved c = subst (λ (xs : List ℕ). IsPermutation xs c.sort_by_key.new.self.items) c.in_ok-order.ensures c.in_ok-sort_by_key.ensures.permutation

pub returns-clause-sorted : goal.returns-clause-sorted
returns-clause-sorted c =
    IsNonDecreasingBy-from_sort_by_key (λ k. slice_index c.args.levels.now k) _ c.in_ok-sort_by_key.ensures.sorted (λ a r q k. search rules)
