-- The letters of axes, and how they are read.
use Rattle.std.proofs.Common.{◌≡◌, ◌≢◌, ◌==◌, ℕ, Bool, true, false, cond, List, [], ◌∷◌, map, length, Option, Some, refl, sym, ap, ◌∙◌, eqb-true}
use lib.ListN.{length-map}
use Rattle.rb_constraint.specs.declared.axes.Axes.{Axes}
use Rattle.rb_constraint.specs.declared.axes.Direction.{Direction}
use Rattle.rb_constraint.specs.Axes.{letter_of, where_held, directions, letters}
use Rattle.rb_constraint.specs.File.{IsAxes}
use Rattle.rb_constraint.specs.Read.{begins, behind, at_end, axes_behind, axes_of}

-- ---- letters
map-held : (b : Bool) (d : Direction) (rest : List Direction) → map letter_of (where_held b d rest) ≡ where_held b (letter_of d) (map letter_of rest)
map-held true d rest = refl
map-held false d rest = refl

-- each letter in its turn
abbrev spelt : Bool → Bool → Bool → Bool → Bool → Bool → List ℕ
spelt x y z a b c = where_held x 120 (where_held y 121 (where_held z 122 (where_held a 97 (where_held b 98 (where_held c 99 [])))))

letters-spelt : (axes : Axes) → letters axes ≡ spelt axes.x axes.y axes.z axes.a axes.b axes.c
unfolding directions
letters-spelt axes =
    map-held axes.x _ _
    ∙ ap (where_held axes.x 120) (map-held axes.y _ _
    ∙ ap (where_held axes.y 121) (map-held axes.z _ _
    ∙ ap (where_held axes.z 122) (map-held axes.a _ _
    ∙ ap (where_held axes.a 97) (map-held axes.b _ _
    ∙ ap (where_held axes.b 98) (map-held axes.c _ _)))))

pub letters-counted : (axes : Axes) → length (letters axes) ≡ length (directions axes)
letters-counted axes = length-map (directions axes) letter_of

-- ---- what is read
split : (letter : ℕ) (text : List ℕ) → text ≡ where_held (begins letter text) letter (behind letter text)
split letter [] = refl
split letter (byte ∷ bytes) = by (byte == letter) refl
  where
    by : (b : Bool) → (byte == letter) ≡ b → byte ∷ bytes ≡ where_held b letter (cond b bytes (byte ∷ bytes))
    by true e = ap (λ x. x ∷ bytes) (eqb-true byte letter e)
    by false e = refl

ended : (rest : List ℕ) (axes read : Axes) → at_end rest axes ≡ Some read → (rest ≡ []) × (axes ≡ read)
ended [] axes read h = let same : axes ≡ read = cc in (refl, same)
ended (byte ∷ bytes) axes read h = absurd cc

behind-say : (text : List ℕ) (axes : Axes) → axes_behind text ≡ Some axes → text ≡ letters axes
behind-say text axes h =
    let y = behind 120 text in
    let z = behind 121 y in
    let a = behind 122 z in
    let b = behind 97 a in
    let c = behind 98 b in
    let found : Axes = record { x = begins 120 text; y = begins 121 y; z = begins 122 z; a = begins 97 a; b = begins 98 b; c = begins 99 c } in
    let p = ended (behind 99 c) found axes h in
    let spelt-out : text ≡ spelt found.x found.y found.z found.a found.b found.c =
    split 120 text
    ∙ ap (where_held found.x 120) (split 121 y
    ∙ ap (where_held found.y 121) (split 122 z
    ∙ ap (where_held found.z 122) (split 97 a
    ∙ ap (where_held found.a 97) (split 98 b
    ∙ ap (where_held found.b 98) (split 99 c
    ∙ ap (where_held found.c 99) p.0))))) in
    spelt-out ∙ sym (letters-spelt found) ∙ ap letters p.1

pub axes-say : (text : List ℕ) (axes : Axes) → axes_of text ≡ Some axes → IsAxes text axes
unfolding axes_of
axes-say [] axes h = absurd cc
axes-say (byte ∷ bytes) axes h = record { some = λ e. cc e; written = behind-say (byte ∷ bytes) axes h }

-- ---- that letters are read
module _ (letter : ℕ) where
  other-held : (other : ℕ) (b : Bool) (rest : List ℕ) → (other == letter) ≡ false → begins letter rest ≡ false → begins letter (where_held b other rest) ≡ false
  other-held other true rest e h = e
  other-held other false rest e h = h

  begins-held : (b : Bool) (rest : List ℕ) → (letter == letter) ≡ true → begins letter rest ≡ false → begins letter (where_held b letter rest) ≡ b
  begins-held true rest e h = e
  begins-held false rest e h = h

  none-behind : (rest : List ℕ) → begins letter rest ≡ false → behind letter rest ≡ rest
  none-behind [] h = refl
  none-behind (byte ∷ bytes) h = ap (λ b. cond b bytes (byte ∷ bytes)) h

  behind-held : (b : Bool) (rest : List ℕ) → (letter == letter) ≡ true → begins letter rest ≡ false → behind letter (where_held b letter rest) ≡ rest
  behind-held true rest e h = ap (λ b. cond b rest (letter ∷ rest)) e
  behind-held false rest e h = none-behind rest h

-- steps of which each is known
abbrev known : List ℕ → List ℕ → List ℕ → List ℕ → List ℕ → List ℕ → List ℕ → Option Axes
known t y z a b c end =
    at_end end (record { x = begins 120 t; y = begins 121 y; z = begins 122 z; a = begins 97 a; b = begins 98 b; c = begins 99 c })

module _ (x y z a b c : Bool) where
  abbrev at-c : List ℕ
  at-c = where_held c 99 []

  abbrev at-b : List ℕ
  at-b = where_held b 98 at-c

  abbrev at-a : List ℕ
  at-a = where_held a 97 at-b

  abbrev at-z : List ℕ
  at-z = where_held z 122 at-a

  abbrev at-y : List ℕ
  at-y = where_held y 121 at-z

  abbrev at-x : List ℕ
  at-x = where_held x 120 at-y

  no-b : begins 98 at-c ≡ false
  no-b = other-held 98 99 c [] refl refl

  no-a : begins 97 at-b ≡ false
  no-a = other-held 97 98 b at-c refl (other-held 97 99 c [] refl refl)

  no-z : begins 122 at-a ≡ false
  no-z = other-held 122 97 a at-b refl (other-held 122 98 b at-c refl (other-held 122 99 c [] refl refl))

  no-y : begins 121 at-z ≡ false
  no-y = other-held 121 122 z at-a refl (other-held 121 97 a at-b refl (other-held 121 98 b at-c refl (other-held 121 99 c [] refl refl)))

  no-x : begins 120 at-y ≡ false
  no-x = other-held 120 121 y at-z refl (other-held 120 122 z at-a refl (other-held 120 97 a at-b refl (other-held 120 98 b at-c refl (other-held 120 99 c [] refl refl))))

  to-y : behind 120 at-x ≡ at-y
  to-y = behind-held 120 x at-y refl no-x

  to-z : (t : List ℕ) → t ≡ at-y → behind 121 t ≡ at-z
  to-z t e = ap (behind 121) e ∙ behind-held 121 y at-z refl no-y

  to-a : (t : List ℕ) → t ≡ at-z → behind 122 t ≡ at-a
  to-a t e = ap (behind 122) e ∙ behind-held 122 z at-a refl no-z

  to-b : (t : List ℕ) → t ≡ at-a → behind 97 t ≡ at-b
  to-b t e = ap (behind 97) e ∙ behind-held 97 a at-b refl no-a

  to-c : (t : List ℕ) → t ≡ at-b → behind 98 t ≡ at-c
  to-c t e = ap (behind 98) e ∙ behind-held 98 b at-c refl no-b

  to-end : (t : List ℕ) → t ≡ at-c → behind 99 t ≡ []
  to-end t e = ap (behind 99) e ∙ behind-held 99 c [] refl refl

  spelt-read : axes_behind (spelt x y z a b c) ≡ Some (record { x = x; y = y; z = z; a = a; b = b; c = c })
  spelt-read =
      let t1 = behind 120 at-x in
      let t2 = behind 121 t1 in
      let t3 = behind 122 t2 in
      let t4 = behind 97 t3 in
      let t5 = behind 98 t4 in
      let t6 = behind 99 t5 in
      let e1 : t1 ≡ at-y = to-y in
      let e2 : t2 ≡ at-z = to-z t1 e1 in
      let e3 : t3 ≡ at-a = to-a t2 e2 in
      let e4 : t4 ≡ at-b = to-b t3 e3 in
      let e5 : t5 ≡ at-c = to-c t4 e4 in
      let e6 : t6 ≡ [] = to-end t5 e5 in
      steps at-x t1 t2 t3 t4 t5 t6 (begins-held 120 x at-y refl no-x) (ap (begins 121) e1 ∙ begins-held 121 y at-z refl no-y) (ap (begins 122) e2 ∙ begins-held 122 z at-a refl no-z)
      (ap (begins 97) e3 ∙ begins-held 97 a at-b refl no-a) (ap (begins 98) e4 ∙ begins-held 98 b at-c refl no-b) (ap (begins 99) e5 ∙ begins-held 99 c [] refl refl) e6
    where
      steps : (t y' z' a' b' c' end : List ℕ) → begins 120 t ≡ x → begins 121 y' ≡ y → begins 122 z' ≡ z → begins 97 a' ≡ a → begins 98 b' ≡ b → begins 99 c' ≡ c → end ≡ []
          → known t y' z' a' b' c' end ≡ Some (record { x = x; y = y; z = z; a = a; b = b; c = c })
      steps t y' z' a' b' c' end h1 h2 h3 h4 h5 h6 e = rw (e, h1, h2, h3, h4, h5, h6) refl

pub axes-read : (text : List ℕ) (axes : Axes) → IsAxes text axes → axes_of text ≡ Some axes
unfolding axes_of
axes-read [] axes is = absurd (is.some refl)
axes-read (byte ∷ bytes) axes is = ap axes_behind (is.written ∙ letters-spelt axes) ∙ spelt-read axes.x axes.y axes.z axes.a axes.b axes.c

-- a text has at most one meaning
pub axes-once : (text : List ℕ) (a b : Axes) → IsAxes text a → IsAxes text b → a ≡ b
axes-once text a b p q = let same : Some a ≡ Some b = sym (axes-read text a p) ∙ axes-read text b q in cc

-- and there is an axis at least
pub axes-some : (text : List ℕ) (axes : Axes) → IsAxes text axes → directions axes ≢ []
axes-some text axes is none = is.some (is.written ∙ ap (map letter_of) none)
