-- Columns on the branches of a tree: numbered from 1, and of each the next one above, where 0 stands for none. Featherstone, Rigid Body Dynamics
-- Algorithms, chapter 6: a table of the tree is zero off the paths from a column to the root.
use Rattle.std.specs.Prelude.{◌≡◌, ◌⊎◌, ℕ, ◌<◌, ◌≤◌}
use Rattle.rb_frac.specs.Frac.{Frac, Same, fracs}

pub record IsColumn (n c : ℕ) : Type 0 where
  pub from : 1 ≤ c
  pub to : c ≤ n

-- columns are numbered from the root on: the next one above has a smaller number
abbrev pub IsRegular : ℕ → (ℕ → ℕ) → Type 0
IsRegular n up = (c : ℕ) → IsColumn n c → up c < c

-- of column c, column d is an ancestor: the next one above c, or an ancestor of that
pub data IsAncestor (up : ℕ → ℕ) : ℕ → ℕ → Type 0 where
  next : {c : ℕ} → 1 ≤ up c → IsAncestor up c (up c)
  further : {c d : ℕ} → 1 ≤ up c → IsAncestor up (up c) d → IsAncestor up c d

-- column d is on the path from c to the root
abbrev pub IsOn : (ℕ → ℕ) → ℕ → ℕ → Type 0
IsOn up c d = (c ≡ d) ⊎ IsAncestor up c d

-- the entries of two columns neither of which is on the path of the other are zero
abbrev pub IsZeroOffPaths : ℕ → (ℕ → ℕ) → (ℕ → ℕ → Frac) → Type 0
IsZeroOffPaths n up m = (c d : ℕ) → IsColumn n c → IsColumn n d → ¬ IsOn up c d → ¬ IsOn up d c → Same (m c d) fracs.nul

abbrev pub IsSymmetric : ℕ → (ℕ → ℕ → Frac) → Type 0
IsSymmetric n m = (c d : ℕ) → IsColumn n c → IsColumn n d → Same (m c d) (m d c)
