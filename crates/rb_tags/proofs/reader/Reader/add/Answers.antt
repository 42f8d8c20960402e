use Rattle.std.proofs.Common.{arith, is_ok}
use Rattle.std.proofs.lemmas.List.{length-reverse}
use Rattle.rb_tags.specs.Kept.{IsReadTag}
use Rattle.rb_tags.proofs.Nested.{reading-added, each-added}
use Rattle.rb_tags.proofs.reader.Reader.add.Goals as goal

pub invariant_of-self-clause-each : goal.invariant_of-self-clause-each
invariant_of-self-clause-each c =
    let shallow = c.requires.shallow in
    let count = length-reverse c.args.self.now.open.items in
    each-added IsReadTag c.args.self.now.tags.items c.push.new.self.items _ (is_ok c.push.result) c.args.self.now.each (record { inside = omega arith; shallow = omega arith; distinct = c.requires.distinct }) c.push.ensures.items

pub invariant_of-self-clause-nested : goal.invariant_of-self-clause-nested
invariant_of-self-clause-nested c =
    reading-added c.args.self.now.open.items c.args.self.now.tags.items c.push.new.self.items _ (is_ok c.push.result) c.args.self.now.nested (omega arith) c.requires.nested c.push.ensures.items
