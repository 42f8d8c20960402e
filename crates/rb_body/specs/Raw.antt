-- What the numbers of a link and of a joint are to the equations: brackets, and a kind.
use Rattle.rb_spatial.specs.Vectors.{vector_of, symmetric_of}
use Rattle.rb_flat.specs.Joint as Flat
use Rattle.rb_flat.specs.Joint.{Kind}
use Rattle.rb_flat.specs.Choice.{LinkBrackets, JointBrackets}
use Rattle.rb_urdf.specs.declared.robot.UrdfKind.{UrdfKind}
use Rattle.rb_urdf.specs.declared.robot.UrdfKind.TheVariants.{Fixed, Revolute, Prismatic, Continuous, Planar, Floating}
use Rattle.rb_body.specs.declared.raw.LinkRaw.{LinkRaw}
use Rattle.rb_body.specs.declared.raw.JointRaw.{JointRaw}

-- the kind in the joint relation
abbrev pub kind_of : UrdfKind → Kind
kind_of Fixed = Flat.Fixed
kind_of Revolute = Flat.Revolute
kind_of Prismatic = Flat.Prismatic
kind_of Continuous = Flat.Continuous
kind_of Planar = Flat.Planar
kind_of Floating = Flat.Free

-- joints of the kind have an axis
abbrev pub HasAxis : UrdfKind → Type 0
HasAxis Fixed = ⊥
HasAxis Revolute = Unit {0}
HasAxis Prismatic = Unit {0}
HasAxis Continuous = Unit {0}
HasAxis Planar = ⊥
HasAxis Floating = ⊥

abbrev pub link_brackets : LinkRaw → LinkBrackets
link_brackets l = record {
  mass = l.mass;
  centre = vector_of l.com;
  rpy = vector_of l.rpy;
  six = symmetric_of l.six;
}

abbrev pub joint_brackets : JointRaw → JointBrackets
joint_brackets j = record {
  origin = vector_of j.xyz;
  rpy = vector_of j.rpy;
  axis = vector_of j.axis;
  factor = j.factor;
}
