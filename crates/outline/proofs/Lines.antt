-- The lines of all bodies, one after the other.
use Rattle.std.proofs.Common.{◌≡◌, ℕ, zero, suc, ◌+◌, ◌-◌, List, [], ◌∷◌, ◌++◌, length, drop, Option, None, Some, IsSomeAnd, refl, sym, ap, ◌∙◌, arith, append_assoc, append-nil}
use Rattle.std.specs.List.{slice_get}
use Rattle.std.proofs.lemmas.List.{drop_all}
use Rattle.std.proofs.lemmas.Option.{same_Some}
use Rattle.rb_tree.specs.declared.robot.Body.{Body}
use Rattle.rb_num.specs.Interval.{Interval}
use Rattle.rb_tree.specs.Columns.{body_at, full_count}
use Rattle.rb_tree.specs.Robot.{Tree}
use Rattle.outline.specs.Outline.{line_of, lines_from, last_text, outline_of}

first_of : {X : Type 0} (xs : List X) (k : ℕ) (x : X) → slice_get xs k ≡ Some x → drop k xs ≡ x ∷ drop (suc k) xs
first_of [] k x h = absurd cc
first_of (y ∷ ys) zero x h = ap (λ z. z ∷ ys) (same_Some y x h)
first_of (y ∷ ys) (suc k) x h = first_of ys k x h

left_by : (bodies : List Body) (k : ℕ) (o : Option Body) (line : List ℕ) → slice_get bodies k ≡ o → IsSomeAnd o (λ body. line ≡ line_of bodies (suc k) body)
    → lines_from bodies (suc k) (drop k bodies) ≡ line ++ lines_from bodies (suc k + 1) (drop (suc k) bodies)
left_by bodies k None line e h = absurd h
left_by bodies k (Some body) line e h =
    ap (lines_from bodies (suc k)) (first_of bodies k body e) ∙ ap (λ (t : List ℕ). t ++ lines_from bodies (suc k + 1) (drop (suc k) bodies)) (sym h)

-- the line of body i is the first of those that are left
pub left : (bodies : List Body) (i : ℕ) (line : List ℕ) → IsSomeAnd (body_at bodies i) (λ body. line ≡ line_of bodies i body)
    → lines_from bodies i (drop (i - 1) bodies) ≡ line ++ lines_from bodies (i + 1) (drop i bodies)
left bodies zero line h = absurd h
left bodies (suc k) line h = let e : suc k - 1 ≡ k = omega arith in rw e (left_by bodies k (slice_get bodies k) line refl h)

-- after the last body no line is left
pub all : (bodies : List Body) (i : ℕ) (text : List ℕ) → i ≡ length bodies + 1 → text ++ lines_from bodies i (drop (i - 1) bodies) ≡ lines_from bodies 1 bodies → text ≡ lines_from bodies 1 bodies
all bodies i text e h =
    let past : i - 1 ≡ length bodies = omega arith in
    let none : drop (i - 1) bodies ≡ [] = rw past (drop_all (length bodies) bodies (omega arith)) in
    sym (append-nil text) ∙ (ap (λ (rest : List Body). text ++ lines_from bodies i rest) (sym none) ∙ h)

-- a text with the lines of the bodies before body i, and one more line
pub goes : (bodies : List Body) (i : ℕ) (text line more : List ℕ) → IsSomeAnd (body_at bodies i) (λ body. line ≡ line_of bodies i body) → more ≡ text ++ line
    → text ++ lines_from bodies i (drop (i - 1) bodies) ≡ lines_from bodies 1 bodies → more ++ lines_from bodies (i + 1) (drop (i + 1 - 1) bodies) ≡ lines_from bodies 1 bodies
goes bodies i text line more is e h =
    let behind : i + 1 - 1 ≡ i = omega arith in
    rw (behind, e) (append_assoc text line (lines_from bodies (i + 1) (drop i bodies)) ∙ (ap (λ (rest : List ℕ). text ++ rest) (sym (left bodies i line is)) ∙ h))

-- with the last line it is the outline
pub ends : (tree : Tree) (mass : Interval) (bodies columns : ℕ) (text whole : List ℕ) → text ≡ lines_from tree.bodies 1 tree.bodies → whole ≡ text ++ last_text bodies columns mass
    → bodies ≡ length tree.bodies → columns ≡ full_count tree.bodies → whole ≡ outline_of tree mass
unfolding outline_of
ends tree mass bodies columns text whole t w b c = cc
