-- The joint, the inertia and the mimic of a body by its number.
use Rattle.std.specs.Prelude.{ℕ, List, Option, None}
use Rattle.std.specs.Option.{option_map_or}
use Rattle.rb_num.specs.Interval.{zero_interval}
use Rattle.rb_num.specs.Arith.{intervals, signs_of}
use Rattle.rb_num.specs.Interval.{Interval}
use Rattle.rb_frac.specs.Tables.{identity, nothing}
use Rattle.rb_frac.specs.Spatial.{BodyInertia}
use Rattle.rb_joint.specs.declared.any.AnyJoint.{AnyJoint}
use Rattle.rb_joint.specs.declared.any.AnyJoint.TheVariants as Joints
use Rattle.rb_tree.specs.declared.robot.Body.{Body}
use Rattle.rb_tree.specs.declared.robot.Mimic.{Mimic}
use Rattle.rb_tree.specs.Columns.{body_at}

-- what stands where there is no body
abbrev pub no_joint : AnyJoint
no_joint =
    let signs = signs_of intervals in
    Joints.Fixed (record { frame = record { rot = identity signs; at = nothing signs } })

abbrev pub no_inertia : BodyInertia Interval
no_inertia =
    let o = zero_interval in
    record { mass = o; first = nothing (signs_of intervals); six = record { xx = o; xy = o; xz = o; yy = o; yz = o; zz = o } }

abbrev pub joint_at : List Body → ℕ → AnyJoint
joint_at bodies i = option_map_or (λ body. body.joint) (body_at bodies i) no_joint

abbrev pub inertia_at : List Body → ℕ → BodyInertia Interval
inertia_at bodies i = option_map_or (λ body. body.inertia) (body_at bodies i) no_inertia

abbrev pub mimic_at : List Body → ℕ → Option Mimic
mimic_at bodies i = option_map_or (λ body. body.mimic) (body_at bodies i) None
