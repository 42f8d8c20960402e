use Rattle.std.proofs.Common.{length, IsUtf8}
use Rattle.rb_tags.proofs.Loop.{AttrsSoFar}
use Rattle.rb_tags.proofs.marks.attributes.Given as goal

abbrev pub invariant-loop-alloc : goal.invariant-loop-alloc
invariant-loop-alloc l = record { utf8 : IsUtf8 l.rest; so_far : AttrsSoFar l.text l.attrs.items l.rest }

abbrev pub decreases-loop-alloc : goal.decreases-loop-alloc
decreases-loop-alloc l = length l.rest
