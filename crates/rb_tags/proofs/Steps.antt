-- Steps of reading that gave something, and runs of bytes.
use Rattle.std.proofs.Common.{◌≡◌, ℕ, ◌<◌, ◌≤◌, Bool, true, false, cond, eqb, List, [], ◌∷◌, ◌++◌, length, Option, Some, None, refl, sym, arith}
use Rattle.std.specs.List.{prefix_len, take_while, AllPass}
use Rattle.std.proofs.lemmas.Bool.{eqb-true}
use Rattle.std.proofs.lemmas.List.{take-append-drop, length-drop, length-take, get_or-take}
use Rattle.std.proofs.lemmas.List.Sums.{prefix_len_passes}
use Rattle.rb_tags.specs.References.{◌>?=◌}
use Rattle.rb_tags.specs.Bytes.{past, after_front}

-- the value of a step that gave one
pub bind_some : {A B : Type 0} (o : Option A) (f : A → Option B) (y : B) → (o >?= f) ≡ Some y → (x : A) × (o ≡ Some x) × (f x ≡ Some y)
bind_some (Some x) f y e = (x, refl, e)
bind_some None f y e = absurd cc

-- a test that passed
pub test_some : {A : Type 0} (b : Bool) (o : Option A) (y : A) → cond b o None ≡ Some y → (b ≡ true) × (o ≡ Some y)
test_some true o y e = (refl, e)
test_some false o y e = absurd cc

abbrev given : {A : Type 0} → A → Option A
given x = Some x

pub some_is : {A : Type 0} (x y : A) → given x ≡ given y → x ≡ y
some_is x y e = cc

-- a run and what is after it
pub run_split : (p : ℕ → Bool) (bytes : List ℕ) → bytes ≡ take_while p bytes ++ past p bytes
unfolding past
run_split p bytes = sym (take-append-drop (prefix_len p bytes) bytes)

pub past-length : (p : ℕ → Bool) (bytes : List ℕ) → length (past p bytes) ≤ length bytes
unfolding past
past-length p bytes = omega (arith, length-drop (prefix_len p bytes) bytes)

pub run_passes : (p : ℕ → Bool) (bytes : List ℕ) → AllPass p (take_while p bytes)
run_passes p bytes = λ i d lt.
    let within : i < prefix_len p bytes = omega (arith, length-take (prefix_len p bytes) bytes, lt) in
    rw (get_or-take (prefix_len p bytes) bytes i d within) (prefix_len_passes p bytes i d within)

-- a text at the front
pub front_takes : (front bytes rest : List ℕ) → after_front front bytes ≡ Some rest → bytes ≡ front ++ rest
unfolding after_front
front_takes [] bytes rest e = some_is bytes rest e
front_takes (c ∷ cs) [] rest e = absurd cc
front_takes (c ∷ cs) (b ∷ bs) rest e =
    let t = test_some (eqb b c) (after_front cs bs) rest e in
    let same : b ≡ c = eqb-true b c t.0 in
    let others = front_takes cs bs rest t.1 in
    cc

pub front_of_one : (b : ℕ) (bytes rest : List ℕ) → after_front (b ∷ []) bytes ≡ Some rest → bytes ≡ b ∷ rest
front_of_one b bytes rest e = front_takes (b ∷ []) bytes rest e
