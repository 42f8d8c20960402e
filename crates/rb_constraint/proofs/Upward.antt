-- The columns of joints, the bodies above a body, and tests of numbers.
use Rattle.std.proofs.Common.{◌≡◌, ℕ, zero, suc, ◌+◌, ◌<◌, ◌≤◌, List, [], ◌∷◌, map, slice_get, slice_index_or, Bool, true, false, Option, None, Some, Result, Ok, Err, refl, ap, sym, ◌∙◌}
use Rattle.std.specs.List.{list_any}
use Rattle.std.specs.Option.{option_map_or}
use Rattle.rb_sweep.specs.Sweep.{sweep, upward}
use Rattle.rb_sweep.proofs.SweepSteps.{upward_next, upward_done, sweep_refused}
use Rattle.rb_flat.specs.Joint as Kinds
use Rattle.rb_joint.specs.Any.{kind_of}
use Rattle.rb_work.specs.Path.{above, Ascends, path}
use Rattle.rb_work.proofs.PathSteps.{path_step_next, path_step_refused, path_step_done}
use Rattle.rb_tree.specs.declared.robot.Body.{Body}
use Rattle.rb_tree.specs.Columns.{body_at, parent_at, full_at, full_columns}
use Rattle.rb_tree.specs.Numbers.{joint_at}
use Rattle.rb_tree.specs.Robot.{AreBodies}
use Rattle.rb_constraint.specs.Rows.{parents_of}

full_by : (o : Option Body) → option_map_or full_columns o 0 ≡ Kinds.column_count (kind_of (option_map_or (λ (body : Body). body.joint) o (joint_at [] 0)))
full_by None = refl
full_by (Some body) = refl

-- the columns of a body's joint
pub full_is : (bodies : List Body) (i : ℕ) → full_at bodies i ≡ Kinds.column_count (kind_of (joint_at bodies i))
full_is bodies i = full_by (body_at bodies i)

-- ---- the bodies above a body
mapped : (xs : List Body) (k : ℕ) → slice_index_or (map (λ (body : Body). body.parent) xs) k 0 ≡ option_map_or (λ (body : Body). body.parent) (slice_get xs k) 0
mapped [] k = refl
mapped (x ∷ xs) zero = refl
mapped (x ∷ xs) (suc k) = mapped xs k

pub above_is : (bodies : List Body) (i : ℕ) → above (parents_of bodies) i ≡ parent_at bodies i
above_is bodies zero = refl
above_is bodies (suc k) = mapped bodies k

pub parents_ascend : (bodies : List Body) → AreBodies bodies → Ascends (parents_of bodies)
parents_ascend bodies kept i low high = rw above_is (kept.parents i low)

module _ {S E : Type 0} (bodies : List Body) (kept : AreBodies bodies) (step : ℕ → S → Result S E) where
  pub body_path_next : (a : ℕ) (s t : S) → 1 ≤ a → step a s ≡ Ok t → sweep step (path (parents_of bodies) a) s ≡ sweep step (path (parents_of bodies) (parent_at bodies a)) t
  body_path_next a s t low e =
      path_step_next (parents_of bodies) (parents_ascend bodies kept) step a s t low e ∙ ap (λ b. sweep step (path (parents_of bodies) b) t) (above_is bodies a)

  pub body_path_refused : (a : ℕ) (s : S) (e : E) → 1 ≤ a → step a s ≡ Err e → sweep step (path (parents_of bodies) a) s ≡ Err e
  body_path_refused a s e low r = path_step_refused (parents_of bodies) (parents_ascend bodies kept) step a s e low r

  pub body_path_done : (a : ℕ) (s : S) → a ≡ 0 → sweep step (path (parents_of bodies) a) s ≡ Ok s
  body_path_done a s e = path_step_done (parents_of bodies) step a s e

pub ruleset body_paths = (body_path_next, body_path_refused, body_path_done)

-- ---- whether one of some numbers passes a test
pub any_here : (p : ℕ → Bool) (i hi : ℕ) → i < hi → p i ≡ true → list_any p (upward i hi) ≡ true
any_here p i hi h e = rw (upward_next i hi h, e) refl

pub any_next : (p : ℕ → Bool) (i hi : ℕ) → i < hi → p i ≡ false → list_any p (upward i hi) ≡ list_any p (upward (i + 1) hi)
any_next p i hi h e = rw (upward_next i hi h, e) refl

pub any_done : (p : ℕ → Bool) (i hi : ℕ) → hi ≤ i → list_any p (upward i hi) ≡ false
any_done p i hi h = rw (upward_done i hi h) refl

pub ruleset any_upward = (any_here, any_next, any_done)

-- ---- a sweep that is what another is ends with it at a refusal
pub up_refused : {S E : Type 0} (step : ℕ → S → Result S E) (i hi : ℕ) (s : S) (e : E) (whole : Result S E) → i < hi → step i s ≡ Err e → sweep step (upward i hi) s ≡ whole → whole ≡ Err e
up_refused step i hi s e whole l r same = sym same ∙ sweep_refused step i hi s e l r
