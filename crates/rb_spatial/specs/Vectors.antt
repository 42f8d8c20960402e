-- Vectors and tables of intervals, and the lists that the code keeps them in.
use Rattle.std.specs.Prelude.{◌≡◌, Bool, List, [], ◌∷◌, length, refl}
use Rattle.std.specs.Ordering.{int_eq, on, eq_of_both}
use Rattle.std.proofs.Common.{arith}
use lib.Pointwise.{pointwise}
use Rattle.rb_frac.specs.Ops.{V3}
use Rattle.rb_frac.specs.Tables.{Table, Symmetric}
use Rattle.rb_num.specs.Interval.{Interval, zero_interval}

abbrev pub vector_of : List Interval → V3 Interval
vector_of (x ∷ (y ∷ (z ∷ _))) = record { x = x; y = y; z = z }
vector_of _ = record { x = zero_interval; y = zero_interval; z = zero_interval }

abbrev pub list_of : V3 Interval → List Interval
list_of v = v.x ∷ v.y ∷ v.z ∷ []

abbrev pub table_of : List (List Interval) → Table Interval
table_of (x ∷ (y ∷ (z ∷ _))) = record { x = vector_of x; y = vector_of y; z = vector_of z }
table_of _ = record { x = vector_of []; y = vector_of []; z = vector_of [] }

abbrev pub lists_of : Table Interval → List (List Interval)
lists_of t = list_of t.x ∷ list_of t.y ∷ list_of t.z ∷ []

-- whether two intervals have the same ends, two vectors the same parts, and two tables the same rows
abbrev pub interval_eq : Interval → Interval → Bool
interval_eq = eq_of_both (on (λ v. v.lo) int_eq) (on (λ v. v.hi) int_eq)

abbrev pub vector_eq : V3 Interval → V3 Interval → Bool
vector_eq = on list_of (pointwise interval_eq)

abbrev pub table_eq : Table Interval → Table Interval → Bool
table_eq = eq_of_both (on (λ t. t.x) vector_eq) (eq_of_both (on (λ t. t.y) vector_eq) (on (λ t. t.z) vector_eq))

-- in the order of the rows
abbrev pub symmetric_of : List Interval → Symmetric Interval
symmetric_of (xx ∷ (xy ∷ (xz ∷ (yy ∷ (yz ∷ (zz ∷ _)))))) = record { xx = xx; xy = xy; xz = xz; yy = yy; yz = yz; zz = zz }
symmetric_of _ = record { xx = zero_interval; xy = zero_interval; xz = zero_interval; yy = zero_interval; yz = zero_interval; zz = zero_interval }

abbrev pub six_of : Symmetric Interval → List Interval
six_of s = s.xx ∷ s.xy ∷ s.xz ∷ s.yy ∷ s.yz ∷ s.zz ∷ []

-- three rows of three
abbrev pub IsSquare : List (List Interval) → Type 0
IsSquare (x ∷ (y ∷ (z ∷ []))) = (length x ≡ 3) × (length y ≡ 3) × (length z ≡ 3)
IsSquare _ = ⊥

pub list_of-vector_of : (xs : List Interval) → length xs ≡ 3 → list_of (vector_of xs) ≡ xs
list_of-vector_of (x ∷ (y ∷ (z ∷ []))) h = refl
list_of-vector_of [] h = absurd (omega arith)
list_of-vector_of (x ∷ []) h = absurd (omega arith)
list_of-vector_of (x ∷ (y ∷ [])) h = absurd (omega arith)
list_of-vector_of (x ∷ (y ∷ (z ∷ (w ∷ r)))) h = absurd (omega arith)

pub lists_of-table_of : (xs : List (List Interval)) → IsSquare xs → lists_of (table_of xs) ≡ xs
lists_of-table_of (x ∷ (y ∷ (z ∷ []))) h = cc (list_of-vector_of x h.0, list_of-vector_of y h.1, list_of-vector_of z h.2)
lists_of-table_of [] h = absurd h
lists_of-table_of (x ∷ []) h = absurd h
lists_of-table_of (x ∷ (y ∷ [])) h = absurd h
lists_of-table_of (x ∷ (y ∷ (z ∷ (w ∷ r)))) h = absurd h

pub six_of-symmetric_of : (xs : List Interval) → length xs ≡ 6 → six_of (symmetric_of xs) ≡ xs
six_of-symmetric_of (a ∷ (b ∷ (c ∷ (d ∷ (e ∷ (f ∷ [])))))) h = refl
six_of-symmetric_of [] h = absurd (omega arith)
six_of-symmetric_of (a ∷ []) h = absurd (omega arith)
six_of-symmetric_of (a ∷ (b ∷ [])) h = absurd (omega arith)
six_of-symmetric_of (a ∷ (b ∷ (c ∷ []))) h = absurd (omega arith)
six_of-symmetric_of (a ∷ (b ∷ (c ∷ (d ∷ [])))) h = absurd (omega arith)
six_of-symmetric_of (a ∷ (b ∷ (c ∷ (d ∷ (e ∷ []))))) h = absurd (omega arith)
six_of-symmetric_of (a ∷ (b ∷ (c ∷ (d ∷ (e ∷ (f ∷ (g ∷ r))))))) h = absurd (omega arith)
