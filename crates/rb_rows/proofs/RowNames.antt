-- The names of the rows of a constraint, one after the other.
use Rattle.std.proofs.Common.{◌≡◌, List, [], ◌++◌, Bool, true, false, map, refl, ◌∙◌, ap, append_assoc}
use Rattle.rb_constraint.specs.Axes.{where_held, directions}
use Rattle.rb_constraint.specs.declared.axes.Axes.{Axes}
use Rattle.rb_constraint.specs.declared.axes.Direction.{Direction}
use Rattle.rb_constraint.specs.declared.axes.Direction.TheVariants as To

module _ {Y : Type 0} (f : Direction → Y) where
  in_front : (held : Bool) (d : Direction) (rest : List Direction) → map f (where_held held d []) ++ map f rest ≡ map f (where_held held d rest)
  in_front true d rest = refl
  in_front false d rest = refl

  -- one more, before the rest
  one_more : (old mid : List Y) (held : Bool) (d : Direction) (rest : List Direction) → mid ≡ old ++ map f (where_held held d []) → mid ++ map f rest ≡ old ++ map f (where_held held d rest)
  one_more old mid held d rest put =
      ap (λ xs. xs ++ map f rest) put ∙ append_assoc old (map f (where_held held d [])) (map f rest) ∙ ap (λ xs. old ++ xs) (in_front held d rest)

  pub own_put : (axes : Axes) (old x y z a b new : List Y) → x ≡ old ++ map f (where_held axes.x To.AlongX []) → y ≡ x ++ map f (where_held axes.y To.AlongY [])
      → z ≡ y ++ map f (where_held axes.z To.AlongZ []) → a ≡ z ++ map f (where_held axes.a To.AboutX []) → b ≡ a ++ map f (where_held axes.b To.AboutY [])
      → new ≡ b ++ map f (where_held axes.c To.AboutZ []) → new ≡ old ++ map f (directions axes)
  unfolding directions
  own_put axes old x y z a b new of_x of_y of_z of_a of_b of_c =
      of_c ∙ one_more a b axes.b To.AboutY _ of_b ∙ one_more z a axes.a To.AboutX _ of_a ∙ one_more y z axes.z To.AlongZ _ of_z
      ∙ one_more x y axes.y To.AlongY _ of_y ∙ one_more old x axes.x To.AlongX _ of_x
