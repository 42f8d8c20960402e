use Rattle.std.proofs.Common.{◌≡◌, ◌-◌, ap, sym, ◌∙◌, refl, length, List, ℕ, arith, get_or}
use Rattle.rb_tree.specs.Robot.{Tree, HasColumn}
use Rattle.rb_tree.specs.Columns.{body_of_column, owners_from, column_count}
use Rattle.std.proofs.lemmas.Option.{slice_get_read, get_or_from_slice_get}
use Rattle.rb_tree.proofs.ColumnLaws.{length-owners}
use Rattle.rb_tree.proofs.Spans.{owner_there_at, column_within}
use Rattle.rb_tree.proofs.robot.Robot.column_body.Goals as goal

pub index-requires : goal.index-requires
index-requires c =
    let bodies = c.self.inside.bodies.items in
    let same : column_count bodies ≡ column_count c.args.self.now.bodies = ap (λ (t : Tree). column_count t.bodies) c.self.view_is in
    omega (arith, same, ap length c.self.invariant.owners_are, length-owners 1 bodies)

-- the body, as the clause `exact` says which it is
number : (tree : Tree) (owners : List ℕ) (c owner : ℕ) → HasColumn tree c → owners ≡ owners_from 1 tree.bodies → owner ≡ get_or owners (c - 1) owner → owner ≡ body_of_column tree.bodies c
unfolding body_of_column
number tree owners c owner h e is =
    sym (get_or_from_slice_get owners (c - 1) owner 0 (slice_get_read owners (length owners) (c - 1) owner refl (omega (arith, h.from, h.to, ap length e, length-owners 1 tree.bodies)) is))
    ∙ ap (λ (xs : List ℕ). get_or xs (c - 1) 0) e

pub returns-clause-exact : goal.returns-clause-exact
returns-clause-exact c =
    let same : c.self.inside.bodies.items ≡ c.args.self.now.bodies = ap (λ (t : Tree). t.bodies) c.self.view_is in
    number c.args.self.now c.self.inside.owners.items c.args.c c.index.result.now c.requires (c.self.invariant.owners_are ∙ ap (owners_from 1) same) c.index.ensures

pub returns-clause-there : goal.returns-clause-there
returns-clause-there c =
    let same : c.self.inside.bodies.items ≡ c.args.self.now.bodies = ap (λ (t : Tree). t.bodies) c.self.view_is in
    let e = number c.args.self.now c.self.inside.owners.items c.args.c c.index.result.now c.requires (c.self.invariant.owners_are ∙ ap (owners_from 1) same) c.index.ensures in
    rw e (owner_there_at c.args.self.now c.args.c c.requires)

pub returns-clause-within : goal.returns-clause-within
returns-clause-within c =
    let same : c.self.inside.bodies.items ≡ c.args.self.now.bodies = ap (λ (t : Tree). t.bodies) c.self.view_is in
    let e = number c.args.self.now c.self.inside.owners.items c.args.c c.index.result.now c.requires (c.self.invariant.owners_are ∙ ap (owners_from 1) same) c.index.ensures in
    rw e (column_within c.args.self.now c.args.c c.requires)
