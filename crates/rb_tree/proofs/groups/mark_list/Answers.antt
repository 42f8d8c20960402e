use Rattle.std.proofs.Common.{◌≡◌, ◌<◌, ◌+◌, length, take, get_or, set, true, sym, arith}
use Rattle.std.specs.List.{Contains}
use Rattle.std.proofs.lemmas.List.Elements.{Contains-get_or}
use Rattle.rb_tree.proofs.GroupMarking.{Adds-one, Adds-more, Contains-more}
use Rattle.rb_tree.proofs.Stems.{read_same}
use Rattle.rb_tree.proofs.groups.mark_list.Goals as goal

pub bounds-marks-number : goal.bounds-marks-number
bounds-marks-number c =
    let numbers = c.args.numbers.now in
    let k = c.loop-number.number-index in
    omega (arith, c.requires (get_or numbers k 0) (Contains-get_or numbers k 0 c.loop-number-test.true), c.loop-number.auto.marks)

pub loop-number-preserved : goal.loop-number-preserved
loop-number-preserved c =
    let numbers = c.args.numbers.now in
    let k = c.loop-number.number-index in
    let x = get_or numbers k 0 in
    let within : x < length c.loop-number.marks =
    omega (arith, c.requires x (Contains-get_or numbers k 0 c.loop-number-test.true), c.loop-number.auto.marks) in
    Adds-more (Contains (take k numbers)) (λ i. i ≡ x) (Contains (take (k + 1) numbers)) c.args.marks.now c.loop-number.marks (set c.loop-number.marks x true)
    (λ i. Contains-more numbers k x c.loop-number-test.true (sym (read_same numbers k x 0 c.loop-number-test.true)) i) c.loop-number.invariant
    (Adds-one c.loop-number.marks x within)
