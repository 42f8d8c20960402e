use Rattle.std.proofs.Common.{◌≡◌, length}
use Rattle.rb_tags.specs.Elements.{elements_inside}
use Rattle.rb_srdf.specs.Parts.{no_parts, parts_after}
use Rattle.rb_srdf.specs.PartNames.{AreNamed}
use Rattle.rb_srdf.proofs.parts.read_parts.Given as goal

-- what is left gives the parts that are missing
abbrev pub invariant-loop-rest : goal.invariant-loop-rest
invariant-loop-rest l = record {
  parts : parts_after no_parts (elements_inside 1 l.fn.tags) ≡ parts_after l.parts (elements_inside 1 l.rest);
  named : AreNamed l.names l.parts;
}

abbrev pub decreases-loop-rest : goal.decreases-loop-rest
decreases-loop-rest l = length l.rest
