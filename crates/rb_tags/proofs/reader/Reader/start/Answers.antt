use Rattle.std.proofs.Common.{is_ok}
use Rattle.rb_result.proofs.Results.{same_ok}
use Rattle.rb_tags.specs.Views.{seen_of}
use Rattle.rb_tags.specs.Seen.{with_tag}
use Rattle.rb_tags.proofs.Nested.{reading-entered}
use Rattle.rb_tags.proofs.reader.Reader.start.Goals as goal

pub invariant_of-self-clause-nested : goal.invariant_of-self-clause-nested
invariant_of-self-clause-nested c =
    reading-entered (seen_of c.args.self.now) c.args.place c.args.start c.add-2.new.self.tags.items c.add-2.new.self.open.items c.push.new.self.items _ (is_ok c.push.result)
    (same_ok (with_tag (seen_of c.args.self.now) c.args.place c.args.start) (seen_of c.add-2.new.self) c.in_ok-add.ensures) c.add-2.new.self.nested c.push.ensures.items
