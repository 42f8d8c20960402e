use Rattle.std.specs.Prelude.{codes}
use Rattle.rb_tags.specs.Elements.{as_element}
use Rattle.rb_srdf.proofs.GivenLaws.{given-says}
use Rattle.rb_srdf.proofs.read.semantics_in.Goals as goal

pub semantics_with-requires-clause-given : goal.semantics_with-requires-clause-given
semantics_with-requires-clause-given c = (given-says (codes "name") (as_element c.new.result) c.in-Ok.name.now c.in-Ok.ensures.gives).some
