-- The text of an outline.
use Rattle.std.specs.Prelude.{◌≡◌, ℕ, zero, suc, ◌+◌, List, [], ◌∷◌, ◌++◌, length, codes, decimal, Result, Ok, Err}
use Rattle.std.specs.List.{concat}
use Rattle.std.specs.Option.{option_map_or}
use Rattle.rb_frac.specs.Frac.{Frac, fracs}
use Rattle.rb_frac.specs.Ops.{sum}
use Rattle.rb_num.specs.Interval.{Interval, zero_interval}
use Rattle.rb_num.specs.Fraction.{LiesIn}
use Rattle.rb_num.specs.Refusing.{iv_add}
use Rattle.rb_num.specs.Text.{iv_text}
use Rattle.rb_num.specs.declared.interval.NumFault.{NumFault}
use Rattle.rb_sweep.specs.Sweep.{sweep, upward}
use Rattle.rb_tree.specs.declared.robot.Body.{Body}
use Rattle.outline.specs.declared.faults.Fault.{Fault}
use Rattle.outline.specs.declared.faults.Fault.TheVariants as Is
use Rattle.rb_tree.specs.Columns.{body_at, parent_at, full_columns, full_count}
use Rattle.rb_tree.specs.Robot.{Tree, HasBody}

-- ---- depths
-- the world has depth 0, and a body 1 more than its parent; at most so many bodies are asked
abbrev pub depth_within : ℕ → List Body → ℕ → ℕ
depth_within zero bodies i = 0
depth_within (suc steps) bodies zero = 0
depth_within (suc steps) bodies (suc k) = 1 + depth_within steps bodies (parent_at bodies (suc k))

-- parents have smaller numbers, so i bodies are enough
unfoldable pub depth_of : List Body → ℕ → ℕ
depth_of bodies i = depth_within i bodies i

-- ---- masses
abbrev pub mass_at : List Body → ℕ → Interval
mass_at bodies i = option_map_or (λ body. body.link_raw.mass) (body_at bodies i) zero_interval

abbrev pub add_mass : List Body → ℕ → Interval → Result Interval NumFault
add_mass bodies i mass = iv_add mass (mass_at bodies i)

-- the sum of the masses of all bodies, or the refusal of the first sum that passes the limit
unfoldable pub mass_of : Tree → Result Interval NumFault
mass_of tree = sweep (add_mass tree.bodies) (upward 1 (length tree.bodies + 1)) zero_interval

-- the sum of all masses lies in it, whatever they are within their brackets
abbrev pub EnclosesMasses : Tree → Interval → Type 0
EnclosesMasses tree total =
    (mass : ℕ → Frac) → ((i : ℕ) → HasBody tree i → LiesIn (mass i) (mass_at tree.bodies i)) → LiesIn (sum fracs (length tree.bodies) (λ k. mass (k + 1))) total

-- ---- lines
abbrev pub line_feed : List ℕ
line_feed = 10 ∷ []

-- of a body: its number, its depth, the names of its link and its joint, and how many columns the joint has
unfoldable pub body_text : ℕ → ℕ → List ℕ → List ℕ → ℕ → List ℕ
body_text i depth link joint columns =
    concat (decimal i ∷ codes ": depth " ∷ decimal depth ∷ codes ", link " ∷ link ∷ codes ", joint " ∷ joint ∷ codes ", columns " ∷ decimal columns ∷ line_feed ∷ [])

abbrev pub line_of : List Body → ℕ → Body → List ℕ
line_of bodies i body = body_text i (depth_of bodies i) body.link_name body.joint_name (full_columns body)

-- of all: how many bodies and columns there are, and the mass
unfoldable pub last_text : ℕ → ℕ → Interval → List ℕ
last_text bodies columns mass =
    concat (codes "bodies " ∷ decimal bodies ∷ codes ", columns " ∷ decimal columns ∷ codes ", mass " ∷ iv_text mass ∷ line_feed ∷ [])

-- a line for each body, where the first one has this number
abbrev pub lines_from : List Body → ℕ → List Body → List ℕ
lines_from bodies i [] = []
lines_from bodies i (body ∷ rest) = line_of bodies i body ++ lines_from bodies (i + 1) rest

unfoldable pub outline_of : Tree → Interval → List ℕ
outline_of tree mass = lines_from tree.bodies 1 tree.bodies ++ last_text (length tree.bodies) (full_count tree.bodies) mass

-- the text is the outline of the tree, whose mass is the sum of the masses
pub record IsOutline (tree : Tree) (text : List ℕ) : Type 0 where
  pub mass : Interval
  pub is_mass : mass_of tree ≡ Ok mass
  pub encloses : EnclosesMasses tree mass
  pub says : text ≡ outline_of tree mass

-- a tree has no outline where its masses have no sum
abbrev pub HasNoMass : Tree → Fault → Type 0
HasNoMass tree (Is.Mass why) = mass_of tree ≡ Err why
HasNoMass tree Is.Memory = Unit {0}
HasNoMass tree fault = ⊥
