use Rattle.std.proofs.Common.{length}
use denote.Text.{Utf8}
use denote.Shadow.{shadow}
use Rattle.rb_tags.specs.Views.{seen_of}
use Rattle.rb_tags.proofs.SoFar.{LeftSoFar}
use Rattle.rb_tags.proofs.read.read_text.Given as goal

abbrev pub invariant-loop-reader : goal.invariant-loop-reader
invariant-loop-reader l = shadow (Utf8 l.left) × LeftSoFar l.text (seen_of l.reader) l.left

abbrev pub decreases-loop-reader : goal.decreases-loop-reader
decreases-loop-reader l = length l.left
