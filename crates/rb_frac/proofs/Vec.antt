-- Variables by their numbers: their values from a list, and vectors of them.
use Prim.Native.Nat.{ℕ, zero, suc}
use mathlib.Core.List.{List, [], ◌∷◌}
use Rattle.rb_frac.specs.Ops.{V3}
use Rattle.rb_frac.proofs.Ring.{Expr, var}

-- the value of the i-th variable, and the vector of three variables from the i-th on
abbrev pub nth : {A : Type 0} → A → List A → ℕ → A
nth d [] i = d
nth d (x ∷ l) zero = x
nth d (x ∷ l) (suc i) = nth d l i

abbrev pub v3 : ℕ → ℕ → ℕ → V3 Expr
v3 i j k = record { x = var i; y = var j; z = var k }
