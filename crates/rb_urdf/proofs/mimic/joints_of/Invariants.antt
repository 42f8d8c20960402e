use Rattle.std.proofs.Common.{◌≡◌, ◌≤◌, [], length, drop}
use Rattle.rb_urdf.specs.Mimics.{joints_after}
use Rattle.rb_urdf.proofs.mimic.joints_of.Given as goal

-- what is left gives the joints that are missing
abbrev pub invariant-loop-draft : goal.invariant-loop-draft
invariant-loop-draft l = record {
  joints : joints_after l.names l.heads.items [] l.fn.drafts.items ≡ joints_after l.names l.heads.items l.joints.items (drop (length l.yielded) l.fn.drafts.items);
  yielded : length l.yielded ≤ length l.fn.drafts.items;
}
