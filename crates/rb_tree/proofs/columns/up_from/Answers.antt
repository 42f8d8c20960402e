use Rattle.std.proofs.Common.{◌-◌, ◌∙◌, ap, arith, get_or}
use Rattle.std.proofs.lemmas.Option.{slice_get-get_or}
use Rattle.rb_tree.specs.declared.columns.Start.{Start}
use Rattle.rb_tree.specs.Columns.{start_behind, nearest_column}
use Rattle.rb_tree.proofs.ListLaws.{IsListOf-get}
use Rattle.rb_tree.proofs.ColumnLaws.{parent_low, parent_number, behind_start, at_start}
use Rattle.rb_tree.proofs.columns.up_from.Goals as goal

pub bounds-lasts-bodies : goal.bounds-lasts-bodies
bounds-lasts-bodies c =
    let bodies = c.args.bodies.now in
    let k = c.args.owner - 1 in
    let b = get_or bodies k c.index-bodies-place.result in
    let low = parent_low bodies c.requires.parents k b (slice_get-get_or bodies k c.index-bodies-place.result (omega arith)) in
    omega (arith, low, c.requires.lasts.count)

pub returns-then-starts-place : goal.returns-then-starts-place
returns-then-starts-place c =
    let bodies = c.args.bodies.now in
    let k = c.args.owner - 1 in
    let e = ap (λ (s : Start). s.column) (IsListOf-get _ (start_behind bodies) c.args.starts.now k (record { full = 0; column = 0; entry = 0 }) c.requires.starts (omega arith)) in
    behind_start (start_behind bodies k).column c.args.previous _ (omega (arith, e, c.if-starts-place.true))

pub returns-else-starts-place : goal.returns-else-starts-place
returns-else-starts-place c =
    let bodies = c.args.bodies.now in
    let k = c.args.owner - 1 in
    let b = get_or bodies k c.index-bodies-place.result in
    let h = slice_get-get_or bodies k c.index-bodies-place.result (omega arith) in
    let low = parent_low bodies c.requires.parents k b h in
    let e = ap (λ (s : Start). s.column) (IsListOf-get _ (start_behind bodies) c.args.starts.now k (record { full = 0; column = 0; entry = 0 }) c.requires.starts (omega arith)) in
    let near = IsListOf-get _ (nearest_column bodies) c.args.lasts.now b.parent 0 c.requires.lasts (omega (arith, low)) in
    let parent = parent_number bodies c.args.owner k b (omega arith) h in
    near ∙ (ap (nearest_column bodies) parent ∙ at_start (start_behind bodies k).column c.args.previous _ (omega (arith, e, c.if-starts-place.false)))
