use Rattle.std.proofs.Common.{length}
use denote.Text.{Utf8}
use denote.Shadow.{shadow}
use Rattle.rb_tags.proofs.ValueSteps.{HasReferences}
use Rattle.rb_tags.proofs.values.is_value.Given as goal

abbrev pub invariant-loop-after : goal.invariant-loop-after
invariant-loop-after l = record {
  utf8 : shadow (Utf8 l.rest);
  so_far : HasReferences l.text l.rest;
}

abbrev pub decreases-loop-after : goal.decreases-loop-after
decreases-loop-after l = length l.rest
