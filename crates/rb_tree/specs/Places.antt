-- The entries and the places of the bodies of a tree in a row, and the first of them that is refused. Featherstone, Rigid Body Dynamics
-- Algorithms, chapter 4.
use Rattle.std.specs.Prelude.{◌≡◌, ℕ, ◌+◌, ◌-◌, List, [], ◌∷◌, ◌++◌, length, take, replicate, flat_map, Option, None, Some, Result, Ok}
use Rattle.rb_num.specs.Interval.{Interval, zero_interval, one_interval}
use Rattle.rb_num.specs.Dot.{iv_dot}
use Rattle.rb_num.specs.Fraction.{LiesIn}
use Rattle.rb_frac.specs.Spatial as S
use Rattle.rb_result.specs.Steps.{◌>>=◌, told_as}
use Rattle.rb_sweep.specs.Sweep.{upward}
use Rattle.rb_sweep.specs.Naming.{IsRefusedFirst}
use Rattle.rb_flat.specs.Joint as Kinds
use Rattle.rb_flat.specs.Choice.{Choice, IsChoice, items_from}
use Rattle.rb_flat.specs.Mechanism.{mechanism_of}
use Rattle.rb_joint.specs.declared.faults.JointFault.{JointFault}
use Rattle.rb_joint.specs.declared.faults.JointFault.TheVariants as Why
use Rattle.rb_joint.specs.Any.{kind_of, any_place}
use Rattle.rb_work.specs.declared.names.NameKind.TheVariants.{q, X}
use Rattle.rb_work.specs.declared.names.RowFault.{RowFault}
use Rattle.rb_work.specs.declared.names.RowFault.TheVariants as Row
use Rattle.rb_work.specs.Names.{one, named_as}
use Rattle.rb_work.specs.View.{View, q_at, X_at}
use Rattle.rb_work.specs.Place.{Place, q_of, X_of, ValueOf, look, names}
use Rattle.rb_tree.specs.declared.robot.Body.{Body}
use Rattle.rb_tree.specs.Numbers.{joint_at, mimic_at}
use Rattle.rb_tree.specs.declared.robot.Mimic.{Mimic}
use Rattle.rb_tree.specs.Columns.{full_count, first_entry, AreUps}
use Rattle.rb_tree.specs.Robot.{Tree, HasBody}
use Rattle.rb_tree.specs.Shape.{shape_of, brackets_of}
use Rattle.rb_tree.specs.State.{at_place, state_brackets}
use Rattle.rb_tree.specs.State as State

-- a work is made for a robot: for its bodies, its full columns and its columns upward
pub record IsFor (tree : Tree) (w : View) : Type 0 where
  pub bodies : w.bodies ≡ length tree.bodies
  pub full : w.full ≡ full_count tree.bodies
  pub up : AreUps tree.bodies w.up

-- ---- entries
-- so many places, the last ones zero
abbrev pub padded : ℕ → List Interval → List Interval
padded places xs = xs ++ replicate (places - length xs) zero_interval

-- the entries of the joint of body i: its own, from its first place on, or that of its master, times the multiplier and plus the offset
abbrev pub entries_by : State.Row → List Body → ℕ → Option Mimic → Result (List Interval) RowFault
entries_by row bodies i None =
    Ok (padded 7 (items_from (at_place row.q) (first_entry bodies i) (Kinds.entry_count (kind_of (joint_at bodies i)))))
entries_by row bodies i (Some mimic) =
    named_as (one q i) (iv_dot ((mimic.multiplier, at_place row.q (first_entry bodies i)) ∷ (mimic.offset, one_interval) ∷ [])) >>= λ x.
    Ok (padded 7 (x ∷ []))

unfoldable pub q_rule : Tree → State.Row → ℕ → Result (List Interval) RowFault
q_rule tree row i = entries_by row tree.bodies i (mimic_at tree.bodies i)

-- ---- places
-- what a joint may answer bears the name of its entries, but for a number that is too large on the way to the place
abbrev pub place_fault : ℕ → JointFault → RowFault
place_fault i Why.Range = Row.Range (one q i)
place_fault i Why.NotUnit = Row.NotUnit (one q i)
place_fault i Why.Size = Row.Size (one X i)

-- the place that the joint of body i has at the entries
unfoldable pub X_rule : Tree → ℕ → View → Result (S.Place Interval) RowFault
X_rule tree i w =
    let joint = joint_at tree.bodies i in
    told_as (place_fault i) (any_place joint (take (Kinds.entry_count (kind_of joint)) (q_at w i)))

-- each value is what its rule gives from the values that the work holds
pub record ArePlaces (tree : Tree) (row : State.Row) (w : View) : Type 0 where
  pub each_q : (i : ℕ) → HasBody tree i → q_rule tree row i ≡ Ok (q_at w i)
  pub each_X : (i : ℕ) → HasBody tree i → X_rule tree i w ≡ Ok (X_at w i)

-- ---- the names, in the order in which they are found
abbrev pub rule : Tree → State.Row → (n : Place) → View → Result (ValueOf n) RowFault
rule tree row (q_of i) w = q_rule tree row i
rule tree row (X_of i) w = X_rule tree i w
rule tree row n w = Ok (look n w)

abbrev pub order : Tree → List Place
order tree = flat_map (λ i. q_of i ∷ X_of i ∷ []) (upward 1 (length tree.bodies + 1))

-- there are values in which the names before one are what their rules give, and the rule of that one refuses
pub record IsPlaceRefused (tree : Tree) (row : State.Row) (e : RowFault) : Type 0 where
  pub values : View
  pub first : IsRefusedFirst (names (rule tree row) (order tree)) values e

-- ---- what they enclose
-- the place of each body of each choice within the brackets of the robot and of the row
pub record EnclosesPlaces (tree : Tree) (row : State.Row) (w : View) : Type 0 where
  pub at : (c : Choice) (i : ℕ) → IsChoice (brackets_of tree) (state_brackets row) c → HasBody tree i
      → S.Places LiesIn ((mechanism_of (shape_of tree) c).place i) (X_at w i)

-- ---- laws
-- there is one answer, whatever a work held: the same values, or one refusal, and not both
pub record PlacesHaveOneAnswer (tree : Tree) (row : State.Row) : Type 0 where
  pub entries : (u w : View) (i : ℕ) → ArePlaces tree row u → ArePlaces tree row w → HasBody tree i → q_at u i ≡ q_at w i
  pub places : (u w : View) (i : ℕ) → ArePlaces tree row u → ArePlaces tree row w → HasBody tree i → X_at u i ≡ X_at w i
  pub either : (w : View) (e : RowFault) → ArePlaces tree row w → IsPlaceRefused tree row e → ⊥
  pub refusal : (d e : RowFault) → IsPlaceRefused tree row d → IsPlaceRefused tree row e → d ≡ e
