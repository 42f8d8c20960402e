-- Tables of variables, the lists of what stands for them, and tables of fractions that are equal as expressions.
use Rattle.std.proofs.Common.{◌≡◌, ℕ, ◌+◌, List, ◌∷◌, true, pos}
use Rattle.rb_frac.specs.Ops.{V3}
use Rattle.rb_frac.specs.Frac.{Frac, Same, whole, fracs}
use Rattle.rb_frac.proofs.Ring.{Expr, var, eval, same}
use Rattle.rb_frac.proofs.Vec.{nth}
use Rattle.rb_frac.proofs.Hom.{frac_ring}
use Rattle.rb_frac.specs.Tables.{Table, Symmetric, Vectors, Tables}
use Rattle.rb_frac.specs.Spatial.{Spatial, Place, Frame, BodyInertia, Inertia, SineCosine, Quaternion, Spatials}

-- the tables of the variables from the i-th on
abbrev pub vector : ℕ → V3 Expr
vector i = record { x = var i; y = var (i + 1); z = var (i + 2) }

abbrev pub rows : ℕ → Table Expr
rows i = record { x = vector i; y = vector (i + 3); z = vector (i + 6) }

abbrev pub symmetric : ℕ → Symmetric Expr
symmetric i = record { xx = var i; xy = var (i + 1); xz = var (i + 2); yy = var (i + 3); yz = var (i + 4); zz = var (i + 5) }

abbrev pub spatial : ℕ → Spatial Expr
spatial i = record { lin = vector i; ang = vector (i + 3) }

abbrev pub place : ℕ → Place Expr
place i = record { e = rows i; r = vector (i + 9) }

abbrev pub body : ℕ → BodyInertia Expr
body i = record { mass = var i; first = vector (i + 1); six = symmetric (i + 4) }

abbrev pub inertia : ℕ → Inertia Expr
inertia i = record { a = symmetric i; b = rows (i + 6); c = symmetric (i + 15) }

abbrev pub frame : ℕ → Frame Expr
frame i = record { rot = rows i; at = vector (i + 9) }

abbrev pub sine_cosine : ℕ → SineCosine Expr
sine_cosine i = record { sin = var i; cos = var (i + 1) }

abbrev pub quaternion : ℕ → Quaternion Expr
quaternion i = record { x = var i; y = var (i + 1); z = var (i + 2); w = var (i + 3) }

-- the entries, and then the list
abbrev pub of_vector : V3 Frac → List Frac → List Frac
of_vector v l = v.x ∷ v.y ∷ v.z ∷ l

abbrev pub of_rows : Table Frac → List Frac → List Frac
of_rows t l = of_vector t.x (of_vector t.y (of_vector t.z l))

abbrev pub of_symmetric : Symmetric Frac → List Frac → List Frac
of_symmetric s l = s.xx ∷ s.xy ∷ s.xz ∷ s.yy ∷ s.yz ∷ s.zz ∷ l

abbrev pub of_spatial : Spatial Frac → List Frac → List Frac
of_spatial m l = of_vector m.lin (of_vector m.ang l)

abbrev pub of_place : Place Frac → List Frac → List Frac
of_place x l = of_rows x.e (of_vector x.r l)

abbrev pub of_body : BodyInertia Frac → List Frac → List Frac
of_body i l = i.mass ∷ of_vector i.first (of_symmetric i.six l)

abbrev pub of_inertia : Inertia Frac → List Frac → List Frac
of_inertia i l = of_symmetric i.a (of_rows i.b (of_symmetric i.c l))

abbrev pub of_frame : Frame Frac → List Frac → List Frac
of_frame f l = of_rows f.rot (of_vector f.at l)

abbrev pub of_sine_cosine : SineCosine Frac → List Frac → List Frac
of_sine_cosine t l = t.sin ∷ t.cos ∷ l

abbrev pub of_quaternion : Quaternion Frac → List Frac → List Frac
of_quaternion q l = q.x ∷ q.y ∷ q.z ∷ q.w ∷ l

-- what the variables stand for
abbrev pub at : List Frac → ℕ → Frac
at l = nth (whole (pos 0)) l

abbrev pub vector_value : (ℕ → Frac) → V3 Expr → V3 Frac
vector_value σ v = record { x = eval fracs σ v.x; y = eval fracs σ v.y; z = eval fracs σ v.z }

abbrev pub table_value : (ℕ → Frac) → Table Expr → Table Frac
table_value σ t = record { x = vector_value σ t.x; y = vector_value σ t.y; z = vector_value σ t.z }

abbrev pub spatial_value : (ℕ → Frac) → Spatial Expr → Spatial Frac
spatial_value σ m = record { lin = vector_value σ m.lin; ang = vector_value σ m.ang }

-- ---- the same polynomials, entry by entry
abbrev pub AreSame : V3 Expr → V3 Expr → Type 0
AreSame u v = (same u.x v.x ≡ true) × (same u.y v.y ≡ true) × (same u.z v.z ≡ true)

-- equal expressions have equal values
pub vectors : (l : List Frac) (u v : V3 Expr) → AreSame u v → Vectors Same (vector_value (at l) u) (vector_value (at l) v)
vectors l u v e = record { x = frac_ring (at l) u.x v.x e.0; y = frac_ring (at l) u.y v.y e.1; z = frac_ring (at l) u.z v.z e.2 }

pub tables : (l : List Frac) (s t : Table Expr) → AreSame s.x t.x → AreSame s.y t.y → AreSame s.z t.z → Tables Same (table_value (at l) s) (table_value (at l) t)
tables l s t x y z = record { x = vectors l s.x t.x x; y = vectors l s.y t.y y; z = vectors l s.z t.z z }

pub identity : (l : List Frac) (s t : Spatial Expr) → AreSame s.lin t.lin → AreSame s.ang t.ang → Spatials Same (spatial_value (at l) s) (spatial_value (at l) t)
identity l s t lin ang = record { lin = vectors l s.lin t.lin lin; ang = vectors l s.ang t.ang ang }
