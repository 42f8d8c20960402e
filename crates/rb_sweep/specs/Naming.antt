-- Names that are found in turn: the rule of each, and the place of its value.
use Rattle.std.specs.Prelude.{◌≡◌, ⊤, List, [], ◌∷◌, ◌++◌, Result, Ok, Err}
use Rattle.rb_result.specs.Steps.{◌>>=◌}

-- the names of a call over states S: what the rule of each gives from a state, what a state holds for it and how it is put there, and the
-- order in which they are found
pub record Naming (S E : Type 0) : Type 1 where
  pub Name : Type 0
  pub Value : Name → Type 0
  pub rule : (n : Name) → S → Result (Value n) E
  pub look : (n : Name) → S → Value n
  pub put : (n : Name) → Value n → S → S
  pub order : List Name

module _ {S E : Type 0} (p : Naming S E) where
  -- each of these names gets the value that its rule gives by then, up to the first that is refused
  abbrev pub run : List p.Name → S → Result S E
  run [] w = Ok w
  run (n ∷ ns) w = p.rule n w >>= λ x. run ns (p.put n x w)

  -- the state holds for the name what its rule gives from the state itself
  abbrev pub Stands : S → p.Name → Type 0
  Stands w n = p.rule n w ≡ Ok (p.look n w)

  -- each of these names stands
  abbrev pub Stand : S → List p.Name → Type 0
  Stand w [] = ⊤
  Stand w (n ∷ ns) = Stands w n × Stand w ns

  -- the first name in the order that is refused: those before it stand, and its rule refuses
  pub record IsRefusedFirst (w : S) (e : E) : Type 0 where
    pub before : List p.Name
    pub name : p.Name
    pub after : List p.Name
    pub split : p.order ≡ before ++ name ∷ after
    pub stand : Stand w before
    pub refused : p.rule name w ≡ Err e
