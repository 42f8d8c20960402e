-- The lines of a file that are left, one after the other.
use Rattle.std.proofs.Common.{◌≡◌, ◌⊎◌, inl, inr, ℕ, ◌+◌, true, false, List, [], ◌∷◌, refl}
use Rattle.rb_io.specs.Cut.{line, all_lines}
use Rattle.rb_constraint.specs.File.{numbered_line, is_kept, lines_from}

-- a text is cut behind its first line
abbrev pub IsCut : List ℕ → List ℕ → ℕ → List ℕ → Type 0
IsCut text content size rest = (all_lines text ≡ line content size ∷ all_lines rest) ⊎ ((rest ≡ []) × (all_lines text ≡ line content size ∷ []))

pub first-kept : (number : ℕ) (text content : List ℕ) (size : ℕ) (rest : List ℕ) → IsCut text content size rest → is_kept content ≡ true
    → lines_from number text ≡ numbered_line number content ∷ lines_from (number + 1) rest
unfolding lines_from
first-kept number text content size rest (inl e) kept = rw (e, kept) refl
first-kept number text content size rest (inr (none, e)) kept = rw (e, none, kept) refl

pub first-passed : (number : ℕ) (text content : List ℕ) (size : ℕ) (rest : List ℕ) → IsCut text content size rest → is_kept content ≡ false → lines_from number text ≡ lines_from (number + 1) rest
unfolding lines_from
first-passed number text content size rest (inl e) passed = rw (e, passed) refl
first-passed number text content size rest (inr (none, e)) passed = rw (e, none, passed) refl

pub none-left : (number : ℕ) (text : List ℕ) → text ≡ [] → lines_from number text ≡ []
unfolding lines_from
none-left number text none = rw none refl
