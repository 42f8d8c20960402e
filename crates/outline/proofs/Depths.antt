-- A body has a depth one more than its parent.
use Rattle.std.proofs.Common.{◌≡◌, ℕ, zero, suc, ◌+◌, ◌<◌, ◌≤◌, List, refl, sym, ap, ◌∙◌, arith}
use Rattle.rb_tree.specs.declared.robot.Body.{Body}
use Rattle.rb_tree.specs.Columns.{parent_at}
use Rattle.rb_tree.specs.Laws.{HasParentsBelow}
use Rattle.outline.specs.Outline.{depth_within, depth_of}

world : (steps : ℕ) (bodies : List Body) → depth_within steps bodies 0 ≡ 0
world zero bodies = refl
world (suc steps) bodies = refl

-- any number of steps that is at least i gives the same
enough : (bodies : List Body) → HasParentsBelow bodies → (s t i : ℕ) → i ≤ s → i ≤ t → depth_within s bodies i ≡ depth_within t bodies i
enough bodies below s t zero h k = world s bodies ∙ sym (world t bodies)
enough bodies below zero t (suc i) h k = absurd (omega arith)
enough bodies below (suc s) zero (suc i) h k = absurd (omega arith)
enough bodies below (suc s) (suc t) (suc i) h k =
    let low = below (suc i) (omega arith) in
    ap (λ (n : ℕ). 1 + n) (enough bodies below s t (parent_at bodies (suc i)) (omega arith) (omega arith))

pub one_more : (bodies : List Body) → HasParentsBelow bodies → (i : ℕ) → 0 < i → depth_of bodies i ≡ 1 + depth_of bodies (parent_at bodies i)
unfolding depth_of
one_more bodies below zero h = absurd (omega arith)
one_more bodies below (suc k) h =
    let low = below (suc k) (omega arith) in
    let p = parent_at bodies (suc k) in
    ap (λ (n : ℕ). 1 + n) (enough bodies below k p p (omega arith) (omega arith))

pub at_world : (bodies : List Body) → depth_of bodies 0 ≡ 0
unfolding depth_of
at_world bodies = refl
