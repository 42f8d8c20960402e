-- Sums of products over any operations, and lists of pairs that are related.
use Rattle.std.specs.Prelude.{List, [], ◌∷◌}
use Rattle.rb_frac.specs.Ops.{Ops}

-- the sum of the products
unfoldable pub dot : {A : Type 0} → Ops A → List (A × A) → A
dot o [] = o.nul
dot o (p ∷ ps) = o.add (o.mul p.0 p.1) (dot o ps)

-- the pairs are related one by one
abbrev pub PairsRelate : {A B : Type 0} → (A → B → Type 0) → List (A × A) → List (B × B) → Type 0
PairsRelate rel [] [] = Unit {0}
PairsRelate rel (p ∷ ps) (q ∷ qs) = rel p.0 q.0 × rel p.1 q.1 × PairsRelate rel ps qs
PairsRelate rel [] (q ∷ qs) = ⊥
PairsRelate rel (p ∷ ps) [] = ⊥
