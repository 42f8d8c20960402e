use Rattle.std.proofs.Common.{◌≡◌, ◌<◌, length, ◌∙◌, inr, arith}
use Rattle.std.proofs.lemmas.Bool.Decides.{nat_tests}
use Rattle.std.proofs.lemmas.List.{length-reverse}
use Rattle.rb_tags.specs.Views.{seen_of}
use Rattle.rb_tags.proofs.Between.{text_inside, text_is_space, text_stays}
use Rattle.rb_tags.proofs.reader.Reader.text.Goals as goal
use Rattle.rb_tags.proofs.reader.Reader.text.Goals.{else-is_empty-via-then-is_empty+else-not-is_empty, else-is_empty-via-else-is_empty}

pub returns-then-not-is_empty-clause-gives : goal.returns-then-not-is_empty-clause-gives
returns-then-not-is_empty-clause-gives c =
    let none : length (seen_of c.args.self.now).open_elements ≡ 0 = length-reverse c.args.self.now.open.items ∙ grind (arith, nat_tests) in
    let some : 0 < length c.run-2.result.1.now = grind (arith, nat_tests) in
    inr (rw (c.run-2.ensures.front, c.run.ensures.front) (text_stays (seen_of c.args.self.now) c.args.place c.args.text.now none (rw (c.run-2.ensures.rest, c.run.ensures.front) at some)))

pub returns-clause-gives : goal.returns-clause-gives
returns-clause-gives c = elim c.else-is_empty.branch [
  | else-is_empty-via-then-is_empty+else-not-is_empty w ↦
      let none : length c.run-2.result.1.now ≡ 0 = grind (arith, nat_tests) in
      rw c.run.ensures.rest (text_is_space (seen_of c.args.self.now) c.args.place c.args.text.now (rw (c.run-2.ensures.rest, c.run.ensures.front) at none))
  | else-is_empty-via-else-is_empty w ↦
      let some : 0 < length c.args.self.now.open.items = grind (arith, nat_tests) in
      rw c.run.ensures.rest (text_inside (seen_of c.args.self.now) c.args.place c.args.text.now (omega (arith, length-reverse c.args.self.now.open.items)))
]
