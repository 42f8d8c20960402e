use Rattle.std.proofs.Common.{◌≡◌, ◌≤◌, ◌+◌, [], length}
use Rattle.std.specs.Prelude.{codes}
use Rattle.rb_tags.specs.Elements.{elements}
use Rattle.rb_urdf.specs.Joints.{drafts_after, names_of_drafts}
use Rattle.rb_urdf.proofs.joint.read_drafts.Given as goal

-- what is left gives the joints that are missing
abbrev pub invariant-loop-rest : goal.invariant-loop-rest
invariant-loop-rest l = record {
  drafts : drafts_after l.links [] (elements (codes "joint") 1 l.fn.tags) ≡ drafts_after l.links l.drafts.items (elements (codes "joint") 1 l.rest);
  names : l.names ≡ names_of_drafts l.drafts.items;
  few : length l.drafts.items + length l.rest ≤ length l.fn.tags;
}

abbrev pub decreases-loop-rest : goal.decreases-loop-rest
decreases-loop-rest l = length l.rest
