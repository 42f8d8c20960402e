-- The joints of a robot, whose mimics still name the joint that they follow.
use Rattle.std.specs.Prelude.{ℕ, ℤ, Bool, true, false, not, ◌&&◌, if◌then◌else◌, List, [], ◌∷◌, ◌++◌, map, codes, pos, bytes_eq, Option, Some, None, option_and_then, Result, Ok, Err}
use Rattle.std.specs.Ordering.{int_eq}
use Rattle.rb_num.specs.Interval.{Interval, grid, zero_interval, one_interval}
use Rattle.rb_urdf.specs.declared.robot.UrdfKind.{UrdfKind}
use Rattle.rb_urdf.specs.declared.robot.UrdfKind.TheVariants.{Fixed, Revolute, Prismatic, Continuous, Planar, Floating}
use Rattle.rb_urdf.specs.declared.robot.UrdfJoint.{UrdfJoint}
use Rattle.rb_urdf.specs.declared.faults.UrdfFault.{UrdfFault}
use Rattle.rb_urdf.specs.declared.faults.UrdfFaultKind.{UrdfFaultKind}
use Rattle.rb_urdf.specs.declared.faults.UrdfFaultKind.TheVariants.{BadType, NoParent, NoChild, UnknownLink, PlanarAxis}
use Rattle.rb_urdf.specs.declared.numbers.Origin.{Origin}
use Rattle.rb_urdf.specs.declared.joint.Ends.{Ends}
use Rattle.rb_urdf.specs.declared.joint.Follow.{Follow}
use Rattle.rb_urdf.specs.declared.joint.Draft.{Draft}
use Rattle.rb_urdf.specs.Robot.{plane_axis}
use Rattle.rb_tags.specs.Elements.{Element, child, attribute, attribute_in}
use Rattle.rb_urdf.specs.Numbers.{zeros, first_axis, number_or, three_or, origin_of}
use Rattle.rb_urdf.specs.Names.{name_after}
use Rattle.rb_tags.specs.Names.{number_of_name}
use Rattle.rb_result.specs.Steps.{◌>>=◌, placed}
use Rattle.std.specs.Option.{ok_or}
use Rattle.rb_urdf.specs.Faults.{fault_at}

-- the kind of a type's name
unfoldable pub kind_named : List ℕ → Option UrdfKind
kind_named text =
    if bytes_eq text (codes "revolute") then Some Revolute else
    if bytes_eq text (codes "continuous") then Some Continuous else
    if bytes_eq text (codes "prismatic") then Some Prismatic else
    if bytes_eq text (codes "fixed") then Some Fixed else
    if bytes_eq text (codes "floating") then Some Floating else
    if bytes_eq text (codes "planar") then Some Planar else None

unfoldable pub kind_of : Element → Result UrdfKind UrdfFaultKind
kind_of element = ok_or (option_and_then kind_named (attribute (codes "type") element)) BadType

-- the name of the link that the element `parent` or `child` has
abbrev pub end_of : List ℕ → Element → Option (List ℕ)
end_of name element = attribute_in (codes "link") (child name element)

-- the numbers of the parent and the child among links of these names
unfoldable pub ends_of : List (List ℕ) → Element → Result Ends UrdfFaultKind
ends_of links element =
    ok_or (end_of (codes "parent") element) NoParent >>= λ parent.
    ok_or (end_of (codes "child") element) NoChild >>= λ child.
    ok_or (number_of_name links parent) UnknownLink >>= λ p.
    ok_or (number_of_name links child) UnknownLink >>= λ c.
    Ok (record { parent = p; child = c })

-- the axis of a joint of a kind, which a fixed or floating joint has none of
unfoldable pub axis_of : UrdfKind → Element → Result (List Interval) UrdfFaultKind
axis_of Fixed element = Ok zeros
axis_of Floating element = Ok zeros
axis_of Planar element = three_or plane_axis (codes "xyz") (child (codes "axis") element)
axis_of Revolute element = three_or first_axis (codes "xyz") (child (codes "axis") element)
axis_of Prismatic element = three_or first_axis (codes "xyz") (child (codes "axis") element)
axis_of Continuous element = three_or first_axis (codes "xyz") (child (codes "axis") element)

unfoldable pub follow_in : Element → Result Follow UrdfFaultKind
follow_in mimic =
    number_or one_interval (codes "multiplier") (Some mimic) >>= λ multiplier.
    number_or zero_interval (codes "offset") (Some mimic) >>= λ offset.
    Ok (record { master = attribute (codes "joint") mimic; multiplier = multiplier; offset = offset })

-- what the element `mimic` says, where there is one
unfoldable pub follow_of : Option Element → Result (Option Follow) UrdfFaultKind
follow_of None = Ok None
follow_of (Some mimic) = follow_in mimic >>= λ follow. Ok (Some follow)

abbrev pub is_planar : UrdfKind → Bool
is_planar Planar = true
is_planar _ = false

-- both ends are so many units
abbrev pub is_exactly : ℤ → Interval → Bool
is_exactly units v = int_eq v.lo units && int_eq v.hi units

-- exactly 0 0 1
unfoldable pub is_plane_axis : List Interval → Bool
is_plane_axis (x ∷ y ∷ z ∷ []) = is_exactly (pos 0) x && is_exactly (pos 0) y && is_exactly (pos grid) z
is_plane_axis _ = false

-- a joint that follows none
abbrev pub unmoved : List ℕ → ℕ → UrdfKind → Ends → Origin → List Interval → UrdfJoint
unmoved name place kind ends origin axis =
    record { name = name; place = place; kind = kind; parent = ends.parent; child = ends.child; xyz = origin.xyz; rpy = origin.rpy; axis = axis; mimic = None }

-- the joint of an element behind joints of these names, in a robot with links of those
unfoldable pub draft_of : List (List ℕ) → List (List ℕ) → Element → Result Draft UrdfFaultKind
draft_of links names element =
    name_after names element >>= λ name.
    kind_of element >>= λ kind.
    ends_of links element >>= λ ends.
    origin_of (child (codes "origin") element) >>= λ origin.
    axis_of kind element >>= λ axis.
    follow_of (child (codes "mimic") element) >>= λ follow.
    if is_planar kind && not (is_plane_axis axis) then Err PlanarAxis else
    Ok (record { joint = unmoved name element.tag.place kind ends origin axis; follow = follow })

abbrev pub names_of_drafts : List Draft → List (List ℕ)
names_of_drafts drafts = map (λ draft. draft.joint.name) drafts

-- these joints and those of the elements behind them
unfoldable pub drafts_after : List (List ℕ) → List Draft → List Element → Result (List Draft) UrdfFault
drafts_after links drafts [] = Ok drafts
drafts_after links drafts (element ∷ elements) =
    placed fault_at element.tag.place (draft_of links (names_of_drafts drafts) element) >>= λ draft. drafts_after links (drafts ++ draft ∷ []) elements
