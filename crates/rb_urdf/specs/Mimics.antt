-- Joints that follow others.
use Rattle.std.specs.Prelude.{ℕ, Bool, true, false, not, ◌||◌, if◌then◌else◌, List, [], ◌∷◌, ◌++◌, map, slice_get, is_some, Option, Some, None, option_and_then, Result, Ok, Err}
use Rattle.rb_urdf.specs.declared.robot.UrdfKind.{UrdfKind}
use Rattle.rb_urdf.specs.declared.robot.UrdfKind.TheVariants.{Revolute, Prismatic, Continuous}
use Rattle.rb_urdf.specs.declared.robot.UrdfMimic.{UrdfMimic}
use Rattle.rb_urdf.specs.declared.robot.UrdfJoint.{UrdfJoint}
use Rattle.rb_urdf.specs.declared.faults.UrdfFault.{UrdfFault}
use Rattle.rb_urdf.specs.declared.faults.UrdfFaultKind.{UrdfFaultKind}
use Rattle.rb_urdf.specs.declared.faults.UrdfFaultKind.TheVariants.{MimicUnknown, MimicChain, MimicMaster}
use Rattle.rb_urdf.specs.declared.joint.Follow.{Follow}
use Rattle.rb_urdf.specs.declared.joint.Draft.{Draft}
use Rattle.rb_urdf.specs.declared.mimic.Head.{Head}
use Rattle.rb_urdf.specs.Joints.{names_of_drafts}
use Rattle.rb_tags.specs.Names.{number_of_name}
use Rattle.rb_result.specs.Steps.{◌>>=◌, placed}
use Rattle.std.specs.Option.{ok_or}
use Rattle.rb_urdf.specs.Faults.{fault_at}

-- a joint of this kind may be followed
abbrev pub may_lead : UrdfKind → Bool
may_lead Revolute = true
may_lead Prismatic = true
may_lead _ = false

-- the kind of a joint that follows another: a continuous one is taken as revolute
abbrev pub following_kind : UrdfKind → UrdfKind
following_kind Continuous = Revolute
following_kind kind = kind

-- what others ask of a joint that they follow
abbrev pub head_of : Draft → Head
head_of draft = record { kind = draft.joint.kind; follows = is_some draft.follow }

-- the mimic of a joint of a kind among joints of these names
unfoldable pub mimic_of : List (List ℕ) → List Head → UrdfKind → Follow → Result UrdfMimic UrdfFaultKind
mimic_of names heads kind follow =
    ok_or (option_and_then (number_of_name names) follow.master) MimicUnknown >>= λ master.
    ok_or (slice_get heads master) MimicUnknown >>= λ head.
    if head.follows then Err MimicChain else
    if not (may_lead head.kind) || not (may_lead (following_kind kind)) then Err MimicMaster else
    Ok (record { master = master; multiplier = follow.multiplier; offset = follow.offset })

abbrev pub joint_with : List (List ℕ) → List Head → UrdfJoint → Option Follow → Result UrdfJoint UrdfFaultKind
joint_with names heads joint None = Ok joint
joint_with names heads joint (Some follow) =
    mimic_of names heads joint.kind follow >>= λ mimic. Ok (record joint { kind = following_kind joint.kind; mimic = Some mimic })

-- the joint, whose mimic has the number of the joint that it follows
unfoldable pub joint_of : List (List ℕ) → List Head → Draft → Result UrdfJoint UrdfFaultKind
joint_of names heads draft = joint_with names heads draft.joint draft.follow

-- these joints and those of the drafts behind them
unfoldable pub joints_after : List (List ℕ) → List Head → List UrdfJoint → List Draft → Result (List UrdfJoint) UrdfFault
joints_after names heads joints [] = Ok joints
joints_after names heads joints (draft ∷ drafts) =
    placed fault_at draft.joint.place (joint_of names heads draft) >>= λ joint. joints_after names heads (joints ++ joint ∷ []) drafts

-- the joints of all drafts
unfoldable pub joints_of : List Draft → Result (List UrdfJoint) UrdfFault
joints_of drafts = joints_after (names_of_drafts drafts) (map head_of drafts) [] drafts
