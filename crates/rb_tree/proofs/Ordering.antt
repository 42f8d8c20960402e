-- The ends of all brackets of a robot and a state are in order, so there is a choice.
use Rattle.std.proofs.Common.{◌≡◌, ◌≤◌, ◌-◌, ℕ, zero, suc, List, length, Option, Some, inl, inr, sym, subst, arith}
use Rattle.std.specs.List.{All}
use Rattle.std.specs.Option.{option_map_or}
use Rattle.std.proofs.lemmas.Bool.{cases_lt}
use Rattle.std.proofs.lemmas.List.{get_or_past}
use Rattle.std.proofs.lemmas.Option.{slice_get_cases}
use Rattle.rb_num.specs.Interval.{Interval, zero_interval}
use Rattle.rb_flat.specs.Choice.{LinkOrdered, JointOrdered, MimicOrdered, IsOrdered, IsRobotOrdered, IsStateOrdered}
use Rattle.rb_flat.proofs.Choices.{has_choice}
use Rattle.rb_body.specs.Raw.{link_brackets, joint_brackets}
use Rattle.rb_tree.specs.declared.robot.Body.{Body}
use Rattle.rb_tree.specs.declared.robot.Mimic.{Mimic}
use Rattle.rb_tree.specs.Columns.{body_at}
use Rattle.rb_tree.specs.Robot.{Tree, mimic_brackets, IsBodyKept, AreBodies}
use Rattle.rb_tree.specs.Shape.{shape_of, no_link, no_joint, no_mimic, brackets_of}
use Rattle.rb_tree.specs.State.{Row, IsRow, at_place, state_brackets}
use Rattle.rb_tree.specs.Laws.{HasChoiceInState}
use Rattle.rb_tree.proofs.ListLaws.{All-at}
use Rattle.rb_tree.proofs.Shapes.{follower, mimics_fit}
use Rattle.rb_tree.proofs.StateLaws.{zero_ordered}

-- a body that is there
record Found (bodies : List Body) (i : ℕ) : Type 0 where
  body : Body
  is : body_at bodies i ≡ Some body
  kept : IsBodyKept body

found : (bodies : List Body) → AreBodies bodies → (i : ℕ) → 1 ≤ i → i ≤ length bodies → Found bodies i
found bodies kept zero from to = absurd (omega arith)
found bodies kept (suc k) from to =
    elim ((slice_get_cases bodies k).1) [
      | inl f ↦ record { body = f.0; is = f.2; kept = All-at IsBodyKept bodies k f.0 kept.kept f.2 }
      | inr past ↦ absurd (let p = past.0 in omega arith)
    ]

module _ (tree : Tree) (kept : AreBodies tree.bodies) where
  robot_ordered : IsRobotOrdered (brackets_of tree)
  robot_ordered = record {
    link = λ i has.
        let f = found tree.bodies kept i has.from has.to in
        let P : Option Body → Type 0 = λ o. LinkOrdered (option_map_or (λ (b : Body). link_brackets b.link_raw) o no_link) in
        subst P (sym f.is) f.kept.link_ordered;
    joint = λ i has.
        let f = found tree.bodies kept i has.from has.to in
        let P : Option Body → Type 0 = λ o. JointOrdered (option_map_or (λ (b : Body). joint_brackets b.joint_raw) o no_joint) in
        subst P (sym f.is) f.kept.joint_ordered;
    mimic = λ i master has h.
        let f = follower (body_at tree.bodies i) master h in
        let follows = kept.follows i f.body f.mimic f.is f.mimic_is in
        let Q : Option Mimic → Type 0 = λ m. MimicOrdered (option_map_or mimic_brackets m no_mimic) in
        let P : Option Body → Type 0 = λ o. MimicOrdered (option_map_or (λ (b : Body). option_map_or mimic_brackets b.mimic no_mimic) o no_mimic) in
        subst P (sym f.is) (subst Q (sym f.mimic_is) follows.ordered);
    fits = mimics_fit tree kept;
  }

-- what stands at a place is in order, also where there is nothing
place_ordered : (numbers : List Interval) (place : ℕ) → All IsOrdered numbers → IsOrdered (at_place numbers place)
place_ordered numbers place all =
    elim (cases_lt place (length numbers)) [
      | inl within ↦ all place zero_interval within
      | inr past ↦ subst IsOrdered (sym (get_or_past numbers place zero_interval past)) zero_ordered
    ]

state_ordered : (tree : Tree) (row : Row) → IsRow row.q row.v row.a row.tau row.gravity → IsStateOrdered (shape_of tree) (state_brackets row)
unfolding state_brackets
state_ordered tree row kept = record {
  gravity = kept.gravity_ordered;
  entry = λ i k has leads within. place_ordered row.q _ kept.q_ordered;
  column = λ k has. record {
    speed = place_ordered row.v (k - 1) kept.v_ordered;
    acceleration = place_ordered row.a (k - 1) kept.a_ordered;
    torque = place_ordered row.tau (k - 1) kept.tau_ordered;
  };
}

pub has_choice_in_state : HasChoiceInState
has_choice_in_state tree row bodies kept = has_choice (brackets_of tree) (state_brackets row) (robot_ordered tree bodies) (state_ordered tree row kept)
