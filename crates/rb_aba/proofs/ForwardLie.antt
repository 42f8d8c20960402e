-- Forward dynamics has exactly one solution, and it lies in the values of the passes.
use Rattle.std.proofs.Common.{ℕ, ◌+◌}
use Rattle.rb_frac.specs.Frac.{Frac, Same, fracs}
use Rattle.rb_frac.proofs.Reduce.{same_sym}
use Rattle.rb_num.specs.Interval.{Interval}
use Rattle.rb_num.proofs.Same.{lies_in_same}
use Rattle.rb_flat.specs.Shape.{Shape, HasBody, ParentsComeFirst, ColumnsFit}
use Rattle.rb_flat.specs.Joint.{column_count}
use Rattle.rb_flat.specs.Mechanism.{Mechanism}
use Rattle.rb_flat.specs.Dynamics.{Unknowns, ForwardDynamics, no_force}
use Rattle.rb_flat.proofs.Equality.{same_fractions, spatials_sym}
use Rattle.rb_joint.proofs.JointMotionLies.{spatials_same}
use Rattle.rb_articulated.specs.Articulated.{Articulated, Accelerated, AreArticulated, AreAccelerated, HasPivots}
use Rattle.rb_articulated.specs.Laws.{AllLead, AreSameAccelerations}
use Rattle.rb_articulated.proofs.Moving.{speeds_same}
use Rattle.rb_articulated.proofs.Solves.{joints_bear, forward_has_solution, found_is_solution}
use Rattle.rb_articulated.proofs.Exists.{has_articulated, has_found}
use Rattle.rb_aba.proofs.Pass.{Given, IsWithin, IsPass, IsReturn, ArticulatedLies, AcceleratedLies, JointBears, SolutionLies, ForwardLies}
use Rattle.rb_aba.proofs.PassLies.{articulated_lies, has_pivots}
use Rattle.rb_aba.proofs.ReturnLies.{accelerated_lies}

module _ (shape : Shape) (m : Mechanism Frac) (g : Given) (w : Articulated Interval) (x : Accelerated Interval) (parents : ParentsComeFirst shape) (fit : ColumnsFit shape)
    (lead : AllLead shape) (within : IsWithin shape m g) (pass : IsPass shape g w) (return : IsReturn shape g w x) where
  t : Articulated Frac
  t = (has_articulated shape m parents).0

  art : AreArticulated shape m t
  unfolding t
  art = (has_articulated shape m parents).1

  d : Accelerated Frac
  d = (has_found shape m t parents).0

  acc : AreAccelerated shape m t d
  unfolding d
  acc = (has_found shape m t parents).1

  inertias : ArticulatedLies shape t w
  inertias = articulated_lies shape m g t w parents fit within art pass

  accelerations : AcceleratedLies shape d x
  accelerations = accelerated_lies shape m g t w d x parents within inertias acc return

  pivots : HasPivots shape m t
  pivots = has_pivots shape m g t w parents fit within art pass

  module _ (s : Unknowns Frac) (solves : ForwardDynamics fracs shape m Same (no_force fracs) s) where
    found : AreSameAccelerations shape s d
    found = found_is_solution shape m t d s parents fit lead art pivots acc solves

    joint_bears : (i : ℕ) → HasBody shape i → JointBears w s i (column_count (shape.kind i))
    joint_bears i there = record {
      inertia = t.IA i (column_count (shape.kind i));
      bias = t.p i (column_count (shape.kind i));
      inertia_lies = inertias.IA i there;
      bias_lies = inertias.p i there;
      bears = joints_bear shape m t s parents fit lead art solves i there (record { each = λ j k col above. pivots.each j k col });
    }

    solution_lies : SolutionLies shape w x s
    solution_lies = record {
      speed = λ i h. spatials_same (spatials_sym same_fractions (speeds_same shape m t s parents lead art solves.moves i h)) (inertias.v i h);
      acceleration = λ i h. spatials_same (spatials_sym same_fractions (found.bodies i h)) (accelerations.a i h);
      joint_acceleration = λ i k col.
          let q = s.joint_acceleration (shape.first_column i + k) in
          lies_in_same (d.x i k) q (x.x i k) (same_sym q (d.x i k) (found.joints i k col)) (accelerations.x i k col);
      joint_force = joint_bears;
    }

  forward_within : ForwardLies shape m w x
  forward_within = record { one = forward_has_solution shape m t parents fit lead art pivots; lies = solution_lies }

pub forward_lies : (shape : Shape) (m : Mechanism Frac) (g : Given) (w : Articulated Interval) (x : Accelerated Interval) → ParentsComeFirst shape → ColumnsFit shape → AllLead shape
    → IsWithin shape m g → IsPass shape g w → IsReturn shape g w x → ForwardLies shape m w x
forward_lies shape m g w x parents fit lead within pass return = forward_within shape m g w x parents fit lead within pass return
