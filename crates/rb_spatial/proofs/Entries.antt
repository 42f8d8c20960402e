-- The entries of an inertia, one by one.
use Rattle.std.proofs.Common.{◌≡◌, ℕ, ◌<◌, ◌≤◌, [], refl, arith}
use Rattle.rb_frac.specs.Ops.{sum as sum_below}
use Rattle.rb_frac.specs.Pairs.{dot}
use Rattle.rb_frac.specs.Frac as F
use Rattle.rb_frac.specs.Frac.{Frac, Same, fracs}
use Rattle.rb_frac.proofs.Ring.{expr}
use Rattle.rb_frac.proofs.Hom.{frac_ring}
use Rattle.rb_num.specs.Arith.{fractions}
use Rattle.rb_num.proofs.Bridges.{expressions}
use Rattle.rb_frac.specs.Spatial.{coordinate, entry}
use Rattle.rb_spatial.specs.Inertias.{mul_both, times, less_vector, less_table, less_symmetric, less_outer}
use Rattle.rb_spatial.specs.Laws.{EntryIsSymmetric, TimesIsRows, LessOuterEntry}
use Rattle.rb_frac.proofs.Below.{below_six}
use Rattle.rb_frac.proofs.Variables.{spatial, inertia, of_spatial, of_inertia, at}

-- what holds at each pair in order below six
pub below_six_ordered : (P : ℕ → ℕ → Type 0)
    → (P 0 0 × P 0 1 × P 0 2 × P 0 3 × P 0 4 × P 0 5)
    → (P 1 1 × P 1 2 × P 1 3 × P 1 4 × P 1 5)
    → (P 2 2 × P 2 3 × P 2 4 × P 2 5)
    → (P 3 3 × P 3 4 × P 3 5)
    → (P 4 4 × P 4 5)
    → P 5 5 → (r c : ℕ) → r ≤ c → c < 6 → P r c
below_six_ordered P p q s t u v r c h k = below_six (λ r. r ≤ c → P r c)
    (λ _. below_six (λ c. P 0 c) p.0 p.1 p.2 p.3 p.4 p.5 c k)
    (λ l. below_six (λ c. 1 ≤ c → P 1 c) (λ i. absurd (omega arith)) (λ _. q.0) (λ _. q.1) (λ _. q.2) (λ _. q.3) (λ _. q.4) c k l)
    (λ l. below_six (λ c. 2 ≤ c → P 2 c) (λ i. absurd (omega arith)) (λ i. absurd (omega arith)) (λ _. s.0) (λ _. s.1) (λ _. s.2) (λ _. s.3) c k l)
    (λ l. below_six (λ c. 3 ≤ c → P 3 c) (λ i. absurd (omega arith)) (λ i. absurd (omega arith)) (λ i. absurd (omega arith)) (λ _. t.0) (λ _. t.1) (λ _. t.2) c k l)
    (λ l. below_six (λ c. 4 ≤ c → P 4 c) (λ i. absurd (omega arith)) (λ i. absurd (omega arith)) (λ i. absurd (omega arith)) (λ i. absurd (omega arith)) (λ _. u.0) (λ _. u.1) c k l)
    (λ l. below_six (λ c. 5 ≤ c → P 5 c) (λ i. absurd (omega arith)) (λ i. absurd (omega arith)) (λ i. absurd (omega arith)) (λ i. absurd (omega arith)) (λ i. absurd (omega arith)) (λ _. v) c k l)
    r (omega arith) h

pub entry-symmetric : EntryIsSymmetric
unfolding entry
entry-symmetric i r c h k =
    below_six (λ r. entry i r c ≡ entry i c r)
    (below_six (λ c. entry i 0 c ≡ entry i c 0) refl refl refl refl refl refl c k)
    (below_six (λ c. entry i 1 c ≡ entry i c 1) refl refl refl refl refl refl c k)
    (below_six (λ c. entry i 2 c ≡ entry i c 2) refl refl refl refl refl refl c k)
    (below_six (λ c. entry i 3 c ≡ entry i c 3) refl refl refl refl refl refl c k)
    (below_six (λ c. entry i 4 c ≡ entry i c 4) refl refl refl refl refl refl c k)
    (below_six (λ c. entry i 5 c ≡ entry i c 5) refl refl refl refl refl refl c k)
    r h

pub times-rows : TimesIsRows
unfolding times mul_both dot coordinate entry sum_below
times-rows i m r h =
    let σ = at (of_inertia i (of_spatial m [])) in
    let left = λ (r : ℕ). coordinate (times expressions (inertia 0) (spatial 21)) r in
    let right = λ (r : ℕ). sum_below expr 6 (λ c. expr.mul (entry (inertia 0) r c) (coordinate (spatial 21) c)) in
    below_six (λ r. Same (coordinate (times fractions i m) r) (sum_below fracs 6 (λ c. F.mul (entry i r c) (coordinate m c))))
    (frac_ring σ (left 0) (right 0) refl)
    (frac_ring σ (left 1) (right 1) refl)
    (frac_ring σ (left 2) (right 2) refl)
    (frac_ring σ (left 3) (right 3) refl)
    (frac_ring σ (left 4) (right 4) refl)
    (frac_ring σ (left 5) (right 5) refl)
    r h

pub less_outer-entry : LessOuterEntry
unfolding less_outer less_symmetric less_table less_vector dot coordinate entry F.sub
less_outer-entry i u w r c h k =
    let σ = at (of_inertia i (of_spatial u (of_spatial w []))) in
    let left = λ (r c : ℕ). entry (less_outer expressions (inertia 0) (spatial 21) (spatial 27)) r c in
    let right = λ (r c : ℕ). expr.add (entry (inertia 0) r c) (expr.neg (expr.mul (coordinate (spatial 21) r) (coordinate (spatial 27) c))) in
    below_six_ordered (λ r c. Same (entry (less_outer fractions i u w) r c) (F.sub (entry i r c) (F.mul (coordinate u r) (coordinate w c))))
    (frac_ring σ (left 0 0) (right 0 0) refl, frac_ring σ (left 0 1) (right 0 1) refl, frac_ring σ (left 0 2) (right 0 2) refl, frac_ring σ (left 0 3) (right 0 3) refl, frac_ring σ (left 0 4) (right 0 4) refl, frac_ring σ (left 0 5) (right 0 5) refl)
    (frac_ring σ (left 1 1) (right 1 1) refl, frac_ring σ (left 1 2) (right 1 2) refl, frac_ring σ (left 1 3) (right 1 3) refl, frac_ring σ (left 1 4) (right 1 4) refl, frac_ring σ (left 1 5) (right 1 5) refl)
    (frac_ring σ (left 2 2) (right 2 2) refl, frac_ring σ (left 2 3) (right 2 3) refl, frac_ring σ (left 2 4) (right 2 4) refl, frac_ring σ (left 2 5) (right 2 5) refl)
    (frac_ring σ (left 3 3) (right 3 3) refl, frac_ring σ (left 3 4) (right 3 4) refl, frac_ring σ (left 3 5) (right 3 5) refl)
    (frac_ring σ (left 4 4) (right 4 4) refl, frac_ring σ (left 4 5) (right 4 5) refl)
    (frac_ring σ (left 5 5) (right 5 5) refl)
    r c h k
