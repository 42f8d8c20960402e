-- The rates of a joint that follows no other are a range of the numbers of the columns.
use Rattle.std.proofs.Common.{◌≡◌, ℕ, zero, suc, ◌+◌, ◌-◌, ◌≤◌, List, [], ◌∷◌, length, take, drop, None, refl, sym, ap, ◌∙◌, arith}
use Rattle.std.specs.List.{slice_range}
use Rattle.rb_num.specs.Interval.{Interval}
use Rattle.rb_result.specs.Steps.{◌>>=◌}
use Rattle.rb_flat.specs.Choice.{items_from}
use Rattle.rb_joint.specs.Columns.{joint_motion}
use Rattle.rb_tree.specs.declared.robot.Body.{Body}
use Rattle.rb_tree.specs.Columns.{first_column}
use Rattle.rb_tree.specs.Numbers.{joint_at, mimic_at}
use Rattle.rb_tree.specs.State.{at_place}
use Rattle.rb_tree.specs.Places.{padded}
use Rattle.rb_tree.proofs.Entries.{take_padded, length-items}
use Rattle.rb_rnea.specs.Rates.{joint_columns, rates_of, rates_by, motion_of, motion_by}

items_cons : (x : Interval) (xs : List Interval) (f n : ℕ) → items_from (at_place (x ∷ xs)) (suc f) n ≡ items_from (at_place xs) f n
items_cons x xs f zero = refl
items_cons x xs f (suc n) = ap (λ ys. at_place xs f ∷ ys) (items_cons x xs (suc f) n)

items_taken : (xs : List Interval) (f n : ℕ) → f + n ≤ length xs → items_from (at_place xs) f n ≡ take n (drop f xs)
items_taken [] f zero h = refl
items_taken (x ∷ xs) zero zero h = refl
items_taken (x ∷ xs) (suc f) zero h = items_taken xs f zero (omega arith)
items_taken [] f (suc n) h = absurd (omega arith)
items_taken (x ∷ xs) zero (suc n) h = ap (λ ys. x ∷ ys) (items_cons x xs zero n ∙ items_taken xs zero n (omega arith))
items_taken (x ∷ xs) (suc f) (suc n) h = items_cons x xs f (suc n) ∙ items_taken xs f (suc n) (omega arith)

-- the motion at them
pub own_motion_is : (bodies : List Body) (numbers : List Interval) (i first n : ℕ) → mimic_at bodies i ≡ None → first ≡ first_column bodies i - 1 → n ≡ joint_columns bodies i → n ≤ 6
    → first + n ≤ length numbers
    → joint_motion (joint_at bodies i) (slice_range numbers first (first + n)) ≡ motion_by bodies numbers i
unfolding rates_of motion_of motion_by
own_motion_is bodies numbers i first n leads ef en few there =
    let items = items_from (at_place numbers) (first_column bodies i - 1) (joint_columns bodies i) in
    let count : length items ≡ joint_columns bodies i = length-items (at_place numbers) (first_column bodies i - 1) (joint_columns bodies i) in
    let is : slice_range numbers first (first + n) ≡ items =
    ap (λ k. take k (drop first numbers)) (omega arith) ∙ sym (items_taken numbers first n there)
    ∙ ap (λ f. items_from (at_place numbers) f n) ef ∙ ap (items_from (at_place numbers) (first_column bodies i - 1)) en in
    let taken : take (joint_columns bodies i) (padded 6 items) ≡ items = ap (λ k. take k (padded 6 items)) (sym count) ∙ take_padded 6 items (omega arith) in
    ap (joint_motion (joint_at bodies i)) (is ∙ sym taken)
    ∙ ap (λ m. (rates_by bodies numbers i m >>= λ rates. joint_motion (joint_at bodies i) (take (joint_columns bodies i) rates))) (sym leads)
