-- The entries on and above the diagonal of a mass table, taken from its rows.
use Rattle.std.proofs.Common.{◌≡◌, ◌≤◌, ◌+◌, ◌-◌, ℕ, suc, List, [], ◌∷◌, map, Some, Result, Ok, Err, refl, ap, ◌∙◌, arith}
use Rattle.std.specs.Prelude.{slice_get, slice_index_or}
use Rattle.std.proofs.lemmas.List.{get_or-map}
use Rattle.rb_num.specs.Interval.{Interval, zero_interval}
use Rattle.rb_result.specs.Steps.{◌>>=◌}
use Rattle.rb_sweep.specs.Sweep.{Answers, upward}
use Rattle.rb_sweep.proofs.Climbing.{length-upward, upward_at}
use Rattle.rb_work.specs.View.{View, mass_at}
use Rattle.rb_tree.specs.Columns.{column_count}
use Rattle.rb_tree.specs.Robot.{Tree}
use Rattle.rb_mass.specs.Mass.{table_in}
use Rattle.rb_rows.specs.Head.{pairs_of}
use Rattle.rb_run.specs.Answers.{entry_of, upper_of, mass_of_pair, masses_in}
use Rattle.rb_run.proofs.Pairs.{IsPair, pair_at}

column_of : {X : Type 0} (f : ℕ → X) (n c : ℕ) (d : X) → 1 ≤ c → c ≤ n → slice_index_or (map f (upward 1 (n + 1))) (c - 1) d ≡ f c
column_of f n c d from to =
    let at : 1 + (c - 1) ≡ c = omega arith in
    get_or-map f (upward 1 (n + 1)) (c - 1) 0 d (omega (arith, to, from, length-upward 1 (n + 1))) ∙ ap f (upward_at 1 (n + 1) (c - 1) 0 (omega (arith, to, from)) ∙ at)

entry_is : (tree : Tree) (w : View) (c d : ℕ) → IsPair (column_count tree.bodies) c d → entry_of (table_in tree w) (c, d) ≡ mass_at w c d
entry_is tree w c d pair =
    let n = column_count tree.bodies in
    ap (λ (row : List Interval). slice_index_or row (d - 1) zero_interval) (column_of (λ k. map (mass_at w k) (upward 1 (n + 1))) n c [] pair.from (omega (arith, pair.order, pair.to)))
    ∙ column_of (mass_at w c) n d zero_interval (omega (arith, pair.from, pair.order)) pair.to

alike : {X Y : Type 0} (f g : X → Y) (xs : List X) → ((k : ℕ) (x : X) → slice_get xs k ≡ Some x → f x ≡ g x) → map f xs ≡ map g xs
alike f g [] same = refl
alike f g (x ∷ xs) same = let first : f x ≡ g x = same 0 x refl in rw (first, alike f g xs (λ k y there. same (suc k) y there)) refl

pub upper_is : (tree : Tree) (w : View) → upper_of (column_count tree.bodies) (table_in tree w) ≡ masses_in tree w
upper_is tree w = alike (entry_of (table_in tree w)) (mass_of_pair w) (pairs_of (column_count tree.bodies)) (λ k pair there. entry_is tree w pair.0 pair.1 (pair_at (column_count tree.bodies) k pair.0 pair.1 there))

-- what is computed from an answer
pub answers_then : {A S T E : Type 0} (r : Result A E) (rule : Result S E) (s : S) (f : S → T) (t : T) → f s ≡ t → Answers r rule s → Answers r (rule >>= λ x. Ok (f x)) t
answers_then (Ok a) rule s f t is answers = rw answers (ap Ok is)
answers_then (Err e) rule s f t is answers = rw answers refl
