use Rattle.std.proofs.Common.{arith, ◌≡◌, ◌+◌, ◌-◌, ◌++◌, ◌∙◌, ap, map, take, sym}
use Rattle.rb_sweep.specs.Sweep.{upward}
use Rattle.rb_work.specs.View.{mass_at, columns_of}
use Rattle.rb_run.proofs.Taken.{taken_none, taken_more}
use Rattle.rb_run.proofs.Pairs.{row_is}
use Rattle.rb_run.proofs.values.put_mass_row.Goals as goal

pub loop-d-init : goal.loop-d-init
loop-d-init c = taken_none _ _ c.args.behind c.args.c

pub loop-d-preserved : goal.loop-d-preserved
loop-d-preserved c =
    taken_more _ _ _ c.args.behind c.args.c c.loop-d.d _ _ (omega arith) (omega arith) (omega (arith, c.requires.room, c.columns-d-end.ensures.value)) c.mass.ensures c.loop-d.invariant

pub returns-clause-row : goal.returns-clause-row
returns-clause-row c =
    let end : columns_of c.args.work.now + 1 ≡ c.loop-d.d = omega (arith, c.requires.to, c.columns-d-end.ensures.value) in
    ap (λ k. take (c.args.behind + (k - c.args.c)) c.loop-d.masses) end ∙ c.loop-d.invariant.taken
    ∙ ap (λ k. take c.args.behind c.args.masses.now ++ map (mass_at c.args.work.now c.args.c) (upward c.args.c k)) (sym end)
    ∙ ap (λ xs. take c.args.behind c.args.masses.now ++ xs) (row_is c.args.work.now (columns_of c.args.work.now) c.args.c)
