-- The nearest column upward of a body, step by step.
use Rattle.std.proofs.Common.{◌≡◌, ℕ, zero, suc, ◌==◌, Bool, cond, List, take, refl, sym, ◌∙◌, ap, arith}
use Rattle.std.specs.List.{sum_by}
use Rattle.rb_tree.specs.declared.robot.Body.{Body}
use Rattle.rb_tree.specs.Columns.{own_columns, parent_at, columns_at, nearest_column}
use Rattle.rb_tree.specs.Laws.{HasParentsBelow, WorldHasNoColumn, BodyHasItsLast, BodyHasItsParents}
use Rattle.rb_tree.proofs.ColumnLaws.{nearest_open, nearest_enough, nearest_first, not_zero}

step : (bodies : List Body) → HasParentsBelow bodies → (k : ℕ) →
    nearest_column bodies (suc k) ≡ cond (columns_at bodies (suc k) == 0) (nearest_column bodies (parent_at bodies (suc k))) (sum_by own_columns (take (suc k) bodies))
unfolding nearest_column
step bodies below k =
    let low = below (suc k) (omega arith) in
    nearest_open bodies k (suc k) ∙
    ap (λ (n : ℕ). cond (columns_at bodies (suc k) == 0) n (sum_by own_columns (take (suc k) bodies)))
    (nearest_enough bodies below k (parent_at bodies (suc k)) (parent_at bodies (suc k)) (omega (arith, low)) (omega arith))

pub world : WorldHasNoColumn
world bodies = sym (nearest_first bodies)

pub own : BodyHasItsLast
own bodies below zero h = absurd (omega arith)
own bodies below (suc k) h =
    step bodies below k ∙
    ap (λ (t : Bool). cond t (nearest_column bodies (parent_at bodies (suc k))) (sum_by own_columns (take (suc k) bodies)))
    (not_zero (columns_at bodies (suc k)) (λ e. omega arith))

pub parents : BodyHasItsParents
parents bodies below zero h = refl
parents bodies below (suc k) h =
    step bodies below k ∙
    ap (λ (n : ℕ). cond (n == 0) (nearest_column bodies (parent_at bodies (suc k))) (sum_by own_columns (take (suc k) bodies))) h
