use Rattle.std.proofs.Common.{arith, ◌∙◌, ◌*◌, ◌+◌, ◌/◌, ℕ, ap, sym, map}
use Rattle.rb_work.specs.View.{columns_of}
use Rattle.rb_rows.specs.Head.{pairs_of}
use Rattle.rb_run.specs.Answers.{mass_of_pair}
use Rattle.rb_run.proofs.Pairs.{masses_none, masses_room, masses_more, masses_whole}
use Rattle.rb_run.proofs.values.put_masses.Goals as goal

pub loop-c-init : goal.loop-c-init
loop-c-init c = masses_none _ _ _ (c.requires.length ∙ ap (λ (n : ℕ). n * (n + 1) / 2) (sym c.requires.work.up.count))

pub put_mass_row-requires-clause-room : goal.put_mass_row-requires-clause-room
put_mass_row-requires-clause-room c =
    masses_room c.args.work.now (columns_of c.args.work.now) c.args.masses.now c.loop-c.masses c.loop-c.c c.loop-c.behind (omega (arith, c.columns-columns.ensures.value)) c.loop-c.invariant

pub loop-c-preserved : goal.loop-c-preserved
loop-c-preserved c =
    masses_more _ _ _ _ _ c.loop-c.c c.loop-c.behind _ (omega (arith, c.columns-columns.ensures.value)) (omega (arith, c.columns-columns.ensures.value)) c.put_mass_row.ensures.length c.put_mass_row.ensures.row
    c.loop-c.invariant

pub returns-clause-masses : goal.returns-clause-masses
returns-clause-masses c =
    masses_whole _ _ _ _ c.loop-c.c c.loop-c.behind (omega (arith, c.columns-columns.ensures.value)) c.loop-c.invariant
    ∙ ap (λ n. map (mass_of_pair c.args.work.now) (pairs_of n)) c.requires.work.up.count
