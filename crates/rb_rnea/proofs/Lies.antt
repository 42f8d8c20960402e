-- The solution of the equations of inverse dynamics lies in the values of a pass.
use Rattle.rb_frac.specs.Frac.{Frac, Same, fracs}
use Rattle.rb_flat.specs.Shape.{Shape, ParentsComeFirst, ColumnsFit, MimicsFit}
use Rattle.rb_flat.specs.Mechanism.{Mechanism}
use Rattle.rb_flat.specs.Dynamics.{Unknowns, no_force, InverseDynamics}
use Rattle.rb_rnea.proofs.Pass.{Given, Found, IsWithin, IsPass, SolutionLies}
use Rattle.rb_rnea.proofs.MotionsLie.{speeds_lie, accelerations_lie, needs_lie}
use Rattle.rb_rnea.proofs.ForcesLie.{forces_lie, torques_lie}

pub dynamics_lie : (shape : Shape) (m : Mechanism Frac) (g : Given) (w : Found) (s : Unknowns Frac) → ParentsComeFirst shape → ColumnsFit shape → MimicsFit shape
    → IsWithin shape m g → IsPass shape g w → InverseDynamics fracs shape m Same (no_force fracs) s → SolutionLies shape w s
dynamics_lie shape m g w s parents fit mimics within pass solves =
    let needs = needs_lie shape m g w s parents fit within pass solves in
    record {
      speed = speeds_lie shape m g w s parents fit within pass solves;
      acceleration = accelerations_lie shape m g w s parents fit within pass solves;
      needed = needs;
      joint_force = forces_lie shape m g w s parents fit mimics within pass solves needs;
      torque = torques_lie shape m g w s parents fit mimics within pass solves needs;
    }
