-- Which axes of the world a constraint holds.
use Rattle.std.specs.Prelude.{ℕ, Bool, true, false, if◌then◌else◌, List, [], ◌∷◌, map}
use Rattle.rb_constraint.specs.declared.axes.Axes.{Axes}
use Rattle.rb_constraint.specs.declared.axes.Direction.{Direction}
use Rattle.rb_constraint.specs.declared.axes.Direction.TheVariants as To

-- the letters x, y, z for points along an axis, and a, b, c for turns about x, y, z
abbrev pub letter_of : Direction → ℕ
letter_of To.AlongX = 120
letter_of To.AlongY = 121
letter_of To.AlongZ = 122
letter_of To.AboutX = 97
letter_of To.AboutY = 98
letter_of To.AboutZ = 99

-- the axis, from 0
abbrev pub axis_of : Direction → ℕ
axis_of To.AlongX = 0
axis_of To.AlongY = 1
axis_of To.AlongZ = 2
axis_of To.AboutX = 0
axis_of To.AboutY = 1
axis_of To.AboutZ = 2

abbrev pub is_turn : Direction → Bool
is_turn To.AlongX = false
is_turn To.AlongY = false
is_turn To.AlongZ = false
is_turn To.AboutX = true
is_turn To.AboutY = true
is_turn To.AboutZ = true

-- an item in front of others, where it is held
abbrev pub where_held : {A : Type 0} → Bool → A → List A → List A
where_held held x others = if held then x ∷ others else others

-- those that are held, in the order of the letters xyzabc
unfoldable pub directions : Axes → List Direction
directions axes =
    where_held axes.x To.AlongX
    (where_held axes.y To.AlongY
    (where_held axes.z To.AlongZ
    (where_held axes.a To.AboutX
    (where_held axes.b To.AboutY
    (where_held axes.c To.AboutZ [])))))

abbrev pub letters : Axes → List ℕ
letters axes = map letter_of (directions axes)
