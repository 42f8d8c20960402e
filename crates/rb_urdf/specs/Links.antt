-- The links of a robot.
use Rattle.std.specs.Prelude.{ℕ, if◌then◌else◌, List, [], ◌∷◌, ◌++◌, codes, pos, int_lt, Option, Result, Ok, Err}
use Rattle.rb_num.specs.Interval.{Interval, zero_interval}
use Rattle.rb_urdf.specs.declared.robot.UrdfLink.{UrdfLink}
use Rattle.rb_urdf.specs.declared.faults.UrdfFault.{UrdfFault}
use Rattle.rb_urdf.specs.declared.faults.UrdfFaultKind.{UrdfFaultKind}
use Rattle.rb_urdf.specs.declared.faults.UrdfFaultKind.TheVariants.{NegativeMass}
use Rattle.rb_urdf.specs.declared.link.Inertial.{Inertial}
use Rattle.rb_tags.specs.Elements.{Element, child, child_in}
use Rattle.rb_urdf.specs.Numbers.{number_or, origin_of}
use Rattle.rb_urdf.specs.Names.{name_after}
use Rattle.rb_result.specs.Steps.{◌>>=◌, placed}
use Rattle.rb_urdf.specs.Faults.{fault_at}
use Rattle.rb_urdf.specs.Robot.{names_of_links}

-- ixx ixy ixz iyy iyz izz
unfoldable pub six_of : Option Element → Result (List Interval) UrdfFaultKind
six_of inertia =
    number_or zero_interval (codes "ixx") inertia >>= λ ixx.
    number_or zero_interval (codes "ixy") inertia >>= λ ixy.
    number_or zero_interval (codes "ixz") inertia >>= λ ixz.
    number_or zero_interval (codes "iyy") inertia >>= λ iyy.
    number_or zero_interval (codes "iyz") inertia >>= λ iyz.
    number_or zero_interval (codes "izz") inertia >>= λ izz.
    Ok (ixx ∷ ixy ∷ ixz ∷ iyy ∷ iyz ∷ izz ∷ [])

-- what the element `inertial` says
unfoldable pub inertial_of : Option Element → Result Inertial UrdfFaultKind
inertial_of inertial =
    origin_of (child_in (codes "origin") inertial) >>= λ origin.
    number_or zero_interval (codes "value") (child_in (codes "mass") inertial) >>= λ mass.
    six_of (child_in (codes "inertia") inertial) >>= λ six.
    if int_lt mass.lo (pos 0) then Err NegativeMass else Ok (record { mass = mass; origin = origin; six = six })

abbrev pub link_with : List ℕ → ℕ → Inertial → UrdfLink
link_with name place i =
    record { name = name; place = place; mass = i.mass; «com» = i.origin.xyz; rpy = i.origin.rpy; six = i.six }

-- the link of an element behind links of these names
unfoldable pub link_of : List (List ℕ) → Element → Result UrdfLink UrdfFaultKind
link_of names element =
    name_after names element >>= λ name.
    inertial_of (child (codes "inertial") element) >>= λ inertial.
    Ok (link_with name element.tag.place inertial)

-- these links and those of the elements behind them
unfoldable pub links_after : List UrdfLink → List Element → Result (List UrdfLink) UrdfFault
links_after links [] = Ok links
links_after links (element ∷ elements) =
    placed fault_at element.tag.place (link_of (names_of_links links) element) >>= λ link. links_after (links ++ link ∷ []) elements
