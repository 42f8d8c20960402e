use Rattle.std.proofs.Common.{◌≡◌, ◌++◌, rules}
use Rattle.rb_io.proofs.Parts.{part_later}
use Rattle.rbd.proofs.run.say.Goals as goal

pub returns-then-is_err-2-clause-part : goal.returns-then-is_err-2-clause-part
returns-then-is_err-2-clause-part g c = λ told.
    let first : g.E.Sink.put c.put_all.new.sink ≡ g.E.Sink.put c.args.err.now ++ c.args.line.now = search rules in
    part_later c.args.line.now c.args.rest.now first (c.put_all-2.ensures.part told)

pub returns-clause-part : goal.returns-clause-part
returns-clause-part g c = λ told.
    let first : g.E.Sink.put c.put_all.new.sink ≡ g.E.Sink.put c.args.err.now ++ c.args.line.now = search rules in
    part_later c.args.line.now c.args.rest.now first (c.put_all-2.ensures.part told)
