use Rattle.std.proofs.Common.{◌≡◌, arith, length}
use Rattle.rb_tree.specs.Columns.{entry_count, column_count}
use Rattle.rb_rows.proofs.Targets.{entries, columns, entries_counted, columns_counted, entry_at, speed_at, acceleration_at, torque_at, targets_counted}
use Rattle.rb_rows.proofs.header.target_at.Goals as goal

pub returns-then-number-entries : goal.returns-then-number-entries
returns-then-number-entries c =
    let tree = c.args.robot.now in
    let es : length (entries tree) ≡ entry_count tree.bodies = entries_counted tree.bodies c.requires.kept.kept in
    entry_at tree c.args.number (omega (arith, es, c.nq.ensures.count, c.if-number-entries.true))

pub returns-then-behind-columns : goal.returns-then-behind-columns
returns-then-behind-columns c =
    let tree = c.args.robot.now in
    let es : length (entries tree) ≡ entry_count tree.bodies = entries_counted tree.bodies c.requires.kept.kept in
    let cs : length (columns tree) ≡ column_count tree.bodies = columns_counted tree.bodies c.requires.kept.kept in
    speed_at tree _ c.args.number (omega (arith, es, c.nq.ensures.count, c.if-number-entries.false)) (omega (arith, cs, c.nv.ensures.count, c.if-behind-columns.true))

pub returns-then-behind-columns-2 : goal.returns-then-behind-columns-2
returns-then-behind-columns-2 c =
    let tree = c.args.robot.now in
    let es : length (entries tree) ≡ entry_count tree.bodies = entries_counted tree.bodies c.requires.kept.kept in
    let cs : length (columns tree) ≡ column_count tree.bodies = columns_counted tree.bodies c.requires.kept.kept in
    acceleration_at tree _ c.args.number (omega (arith, es, cs, c.nq.ensures.count, c.nv.ensures.count, c.if-number-entries.false, c.if-behind-columns.false))
    (omega (arith, cs, c.nv.ensures.count, c.if-behind-columns-2.true))

pub returns-else-behind-columns-2 : goal.returns-else-behind-columns-2
returns-else-behind-columns-2 c =
    let tree = c.args.robot.now in
    let es : length (entries tree) ≡ entry_count tree.bodies = entries_counted tree.bodies c.requires.kept.kept in
    let cs : length (columns tree) ≡ column_count tree.bodies = columns_counted tree.bodies c.requires.kept.kept in
    torque_at tree _ c.args.number (omega (arith, es, cs, c.nq.ensures.count, c.nv.ensures.count, c.if-number-entries.false, c.if-behind-columns.false, c.if-behind-columns-2.false))
    (omega (arith, es, cs, targets_counted tree, c.requires.there, c.nq.ensures.count, c.nv.ensures.count, c.if-number-entries.false, c.if-behind-columns.false, c.if-behind-columns-2.false))
