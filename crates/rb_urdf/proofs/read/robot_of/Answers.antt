use Rattle.rb_tags.specs.Elements.{as_element}
use Rattle.rb_urdf.proofs.NameLaws.{name-says}
use Rattle.rb_urdf.proofs.read.robot_of.Goals as goal

pub robot_with-requires-clause-given : goal.robot_with-requires-clause-given
robot_with-requires-clause-given c = (name-says (as_element c.new.result) c.in-Ok.name.now c.in-Ok.ensures.gives).given
