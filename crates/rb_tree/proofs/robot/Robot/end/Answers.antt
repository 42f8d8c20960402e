use Rattle.std.proofs.Common.{◌+◌, ap, ◌∙◌, arith}
use Rattle.rb_tree.specs.declared.columns.Start.{Start}
use Rattle.rb_tree.specs.Robot.{Tree}
use Rattle.rb_tree.specs.Columns.{full_count, column_count, entry_count}
use Rattle.rb_tree.proofs.ColumnLaws.{end_is, full_end, column_end, entry_end, entries_by_columns}
use Rattle.rb_tree.proofs.robot.Robot.end.Goals as goal

pub returns-clause-full : goal.returns-clause-full
returns-clause-full c =
    let bodies = c.self.inside.bodies.items in
    let is = end_is bodies c.self.inside.starts.items c.len.result _ _ c.self.invariant.starts_are (omega arith) c.index.ensures in
    ap (λ (s : Start). s.full) is ∙ (full_end bodies ∙ ap (λ (t : Tree). 1 + full_count t.bodies) c.self.view_is)

pub returns-clause-column : goal.returns-clause-column
returns-clause-column c =
    let bodies = c.self.inside.bodies.items in
    let is = end_is bodies c.self.inside.starts.items c.len.result _ _ c.self.invariant.starts_are (omega arith) c.index.ensures in
    ap (λ (s : Start). s.column) is ∙ (column_end bodies ∙ ap (λ (t : Tree). 1 + column_count t.bodies) c.self.view_is)

pub returns-clause-entry : goal.returns-clause-entry
returns-clause-entry c =
    let bodies = c.self.inside.bodies.items in
    let is = end_is bodies c.self.inside.starts.items c.len.result _ _ c.self.invariant.starts_are (omega arith) c.index.ensures in
    ap (λ (s : Start). s.entry) is ∙ (entry_end bodies ∙ ap (λ (t : Tree). entry_count t.bodies) c.self.view_is)

pub returns-clause-few : goal.returns-clause-few
returns-clause-few c =
    let bodies = c.self.inside.bodies.items in
    let is = end_is bodies c.self.inside.starts.items c.len.result _ _ c.self.invariant.starts_are (omega arith) c.index.ensures in
    omega (arith, ap (λ (s : Start). s.full) is, full_end bodies, c.self.invariant.bodies_kept.few_full)

pub returns-clause-within : goal.returns-clause-within
returns-clause-within c =
    let bodies = c.self.inside.bodies.items in
    let is = end_is bodies c.self.inside.starts.items c.len.result _ _ c.self.invariant.starts_are (omega arith) c.index.ensures in
    omega (arith, ap (λ (s : Start). s.full) is, ap (λ (s : Start). s.column) is, full_end bodies, column_end bodies, c.self.invariant.bodies_kept.columns_within)

pub returns-clause-few_entries : goal.returns-clause-few_entries
returns-clause-few_entries c =
    let bodies = c.self.inside.bodies.items in
    let is = end_is bodies c.self.inside.starts.items c.len.result _ _ c.self.invariant.starts_are (omega arith) c.index.ensures in
    omega (arith, ap (λ (s : Start). s.entry) is, entry_end bodies, entries_by_columns bodies, c.self.invariant.bodies_kept.few_columns)
