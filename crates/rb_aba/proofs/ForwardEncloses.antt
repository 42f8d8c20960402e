-- The one solution of forward dynamics of each choice lies in the values of a row.
use Rattle.std.proofs.Common.{◌≡◌, ℕ, zero, suc, ◌-◌, Bool, true, false, ◌||◌, List, [], ◌∷◌, slice_get, Option, None, Some, is_some, refl, sym, subst, arith}
use Rattle.std.specs.List.{list_any}
use Rattle.std.specs.Option.{option_map_or}
use Rattle.rb_num.specs.Fraction.{LiesIn}
use Rattle.rb_num.proofs.Bridges.{ok_met}
use Rattle.rb_frac.specs.Frac.{Frac}
use Rattle.rb_frac.specs.Spatial.{Motions, Forces, Inertias}
use Rattle.rb_flat.specs.Joint as Kinds
use Rattle.rb_flat.specs.Joint.{Kind, chosen_column}
use Rattle.rb_flat.specs.Shape as Flat
use Rattle.rb_flat.specs.Body.{chosen_inertia}
use Rattle.rb_flat.specs.Choice.{Choice, IsChoice}
use Rattle.rb_flat.specs.Mechanism.{mechanism_of}
use Rattle.rb_flat.specs.Dynamics.{Unknowns}
use Rattle.rb_joint.specs.Any.{any_column}
use Rattle.rb_joint.proofs.JointMotionLies.{column_lies}
use Rattle.rb_work.specs.View.{View, s_at, x_at}
use Rattle.rb_tree.specs.declared.robot.Body.{Body}
use Rattle.rb_tree.specs.declared.robot.Mimic.{Mimic}
use Rattle.rb_tree.specs.Columns.{has_mimic}
use Rattle.rb_tree.specs.Numbers.{joint_at}
use Rattle.rb_tree.specs.Robot.{Tree, HasBody, AreBodies}
use Rattle.rb_tree.specs.Shape.{kind_at, master_of, shape_of, brackets_of}
use Rattle.rb_tree.specs.State.{Row, state_brackets}
use Rattle.rb_tree.proofs.NumbersLie.{model_of, inertia_lies}
use Rattle.rb_tree.proofs.ColumnsFit.{columns_fit, parents_first}
use Rattle.rb_tree.proofs.PlaceEncloses.{kind_same, places_enclose}
use Rattle.rb_rnea.specs.Rates.{motion_of}
use Rattle.rb_rnea.proofs.RatesLie.{motion_within}
use Rattle.rb_rnea.proofs.DynamicsEnclose.{s_is, rates_within}
use Rattle.rb_articulated.specs.Laws as Laws
use Rattle.rb_articulated.proofs.Torques.{joint_column, column_again}
use Rattle.rb_aba.specs.Articulated.{Rest}
use Rattle.rb_aba.specs.Forward.{AllLead, AreFirst, AreForward, JointBears, SolutionLies, ForwardLies, EnclosesForward}
use Rattle.rb_aba.proofs.Pass as Pass
use Rattle.rb_aba.proofs.Pass.{BodyWithin, IsWithin}
use Rattle.rb_aba.proofs.ForwardLie.{forward_lies}
use Rattle.rb_aba.proofs.ValuesPass.{given, articulated, accelerated, rest_all, a_pass, a_return}

-- ---- no joint follows another
leads : (bodies : List Body) → has_mimic bodies ≡ false → (k : ℕ) → option_map_or (λ (b : Body). master_of b.mimic) (slice_get bodies k) None ≡ None
leads [] h k = refl
leads (b ∷ bs) h zero = go b.mimic h
  where
    go : (m : Option Mimic) → (is_some m || list_any (λ (b : Body). is_some b.mimic) bs) ≡ false → master_of m ≡ None
    go None e = refl
    go (Some mimic) e = absurd cc
leads (b ∷ bs) h (suc k) = leads bs (rest (is_some b.mimic) h) k
  where
    rest : (m : Bool) → (m || list_any (λ (b : Body). is_some b.mimic) bs) ≡ false → list_any (λ (b : Body). is_some b.mimic) bs ≡ false
    rest false e = e
    rest true e = absurd cc

pub all_lead : (tree : Tree) → AllLead tree → Laws.AllLead (shape_of tree)
all_lead tree h zero there = absurd (omega (arith, there.from))
all_lead tree h (suc k) there = leads tree.bodies h k

module _ (tree : Tree) (row : Row) (kept : AreBodies tree.bodies) (lead : AllLead tree) (c : Choice) (chosen : IsChoice (brackets_of tree) (state_brackets row) c)
    (w : View) (are : AreFirst tree row w) where
  body_within : (i : ℕ) → HasBody tree i → BodyWithin (shape_of tree) (mechanism_of (shape_of tree) c) (given tree row w) i
  unfolding mechanism_of state_brackets chosen_inertia motion_of
  body_within i has =
      let joint = joint_at tree.bodies i in
      let kind = sym (kind_same tree.bodies i) in
      let model = model_of tree row kept c chosen i has in
      record {
        place = (places_enclose tree row w kept are.places).at c i chosen has;
        column = λ k l. subst (λ (n : Kind). Motions LiesIn (chosen_column n (c.joint i) k) (any_column joint k)) kind (column_lies joint (c.joint i) k model);
        inertia = inertia_lies tree row kept c chosen i has;
        velocity_over = motion_within (shape_of tree) c i joint c.speed (s_at w i) kind model
            (ok_met (s_is tree row w are.speeds i has) (rates_within tree row kept c chosen i c.speed row.v has (λ k col. (chosen.columns k col).speed)));
      }

  within : IsWithin (shape_of tree) (mechanism_of (shape_of tree) c) (given tree row w)
  unfolding mechanism_of state_brackets
  within = record {
    gravity = chosen.gravity;
    each = λ i has. body_within i (record { from = has.from; to = has.to });
    torque = λ k col. (chosen.columns k col).torque;
  }

  lies : Pass.ForwardLies (shape_of tree) (mechanism_of (shape_of tree) c) (articulated tree w) (accelerated tree w)
  lies =
      forward_lies (shape_of tree) (mechanism_of (shape_of tree) c) (given tree row w) (articulated tree w) (accelerated tree w)
      (parents_first tree kept) (columns_fit tree kept) (all_lead tree lead) within (a_pass tree row w are.articulated are.speeds) (a_return tree row w are.accelerated)

  solution_lies : (s : Unknowns Frac) → Pass.SolutionLies (shape_of tree) (articulated tree w) (accelerated tree w) s → SolutionLies tree s w w
  solution_lies s h = record {
    velocity = h.speed;
    acceleration = h.acceleration;
    joint_acceleration = λ k has.
        let col : Flat.HasColumn (shape_of tree) k = record { from = has.from; to = has.to } in
        subst (λ (n : ℕ). LiesIn (s.joint_acceleration n) (x_at w n)) (column_again (shape_of tree) (columns_fit tree kept) (all_lead tree lead) k col)
        (h.joint_acceleration ((shape_of tree).owner k) (k - (shape_of tree).first_column ((shape_of tree).owner k)) (joint_column (shape_of tree) (columns_fit tree kept) (all_lead tree lead) k col));
    joint_force = λ i has. bears i has (h.joint_force i (record { from = has.from; to = has.to }));
  }
    where
      bears : (i : ℕ) → HasBody tree i → Pass.JointBears (articulated tree w) s i (Kinds.column_count (kind_at tree.bodies i)) → JointBears s w i
      bears i has b = record {
        inertia = b.inertia;
        bias = b.bias;
        inertia_lies = subst (λ (r : Rest). Inertias LiesIn b.inertia r.0) (rest_all tree row w are.articulated i) b.inertia_lies;
        bias_lies = subst (λ (r : Rest). Forces LiesIn b.bias r.1) (rest_all tree row w are.articulated i) b.bias_lies;
        bears = b.bears;
      }

  forward_within : ForwardLies tree row w w c
  forward_within = record { one = lies.one; lies = solution_lies lies.one.solution (lies.lies lies.one.solution lies.one.solves) }

-- what lies in the first values lies in those that are left
module _ (tree : Tree) (row : Row) (w : View) (are : AreForward tree row w) where
  left_lies : (s : Unknowns Frac) → SolutionLies tree s are.first are.first → SolutionLies tree s are.first w
  left_lies s h =
      subst (λ (v : View). SolutionLies tree s are.first v) (sym are.rest)
      (record { velocity = h.velocity; acceleration = h.acceleration; joint_acceleration = h.joint_acceleration; joint_force = h.joint_force })

  within_left : (c : Choice) → ForwardLies tree row are.first are.first c → ForwardLies tree row are.first w c
  within_left c h = record { one = h.one; lies = left_lies h.one.solution h.lies }

pub forward_encloses : (tree : Tree) (row : Row) (w : View) → AreBodies tree.bodies → AllLead tree → AreForward tree row w → EnclosesForward tree row w
forward_encloses tree row w kept lead are =
    record { values = are; at = λ c chosen. within_left tree row w are c (forward_within tree row kept lead c chosen are.first are.found) }
