use Rattle.std.proofs.Common.{length}
use Rattle.rb_io.proofs.mem_files.+place_of.Given as goal

-- proposed from what the function passes where it calls itself
abbrev pub decreases-place_of : goal.decreases-place_of
decreases-place_of l = length l.files.now
