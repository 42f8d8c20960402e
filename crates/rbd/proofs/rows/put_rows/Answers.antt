use Rattle.std.proofs.Common.{rules, arith, sym, ◌∙◌}
use Rattle.rb_io.proofs.Parts.{puts_more, part_more}
use Rattle.rb_io.specs.Cut.{lines_of}
use Rattle.rbd.proofs.Courses.{follows_long, follows_end, follows_fault}
use Rattle.rbd.proofs.EachRow.{text_short, answer_short}
use Rattle.rbd.proofs.rows.put_rows.Goals as goal

pub rows-preserved : goal.rows-preserved
rows-preserved g c =
    let first = c.in-Some.ensures.lines in
    let short = c.if-row-gt-MOST_LINE.false in
    record {
      desk = search rules;
      tells = search rules;
      count = omega (arith, c.rows.invariant.count, c.in-Some.ensures.shorter);
      answer = sym (answer_short c.args.job.now c.args.start.now c.args.header.now _ _ _ _ _ _ first short c.in-Ok.ensures.refused) ∙ c.rows.invariant.answer;
      put = λ told.
          puts_more _ _ (c.rows.invariant.put (c.put_row.ensures.tells told)) (text_short c.args.job.now c.args.start.now c.args.header.now c.rows.number _ _ _ first short) (c.in-Ok.ensures.whole told);
      faults = search rules;
    }

pub returns-then-row-gt-MOST_LINE-clause-follows : goal.returns-then-row-gt-MOST_LINE-clause-follows
returns-then-row-gt-MOST_LINE-clause-follows g c =
    follows_long c.args.job.now c.args.start.now c.args.header.now (lines_of c.args.rows.now) _ c.rows.number c.rows.bad (lines_of c.rows.rest.now) _ _ c.in-Some.ensures.lines c.if-row-gt-MOST_LINE.true c.rows.invariant.answer c.rows.invariant.put

pub returns-in-Err-clause-follows : goal.returns-in-Err-clause-follows
returns-in-Err-clause-follows g c =
    follows_fault c.args.job.now c.args.start.now c.args.header.now (lines_of c.args.rows.now) _ c.in-Err.stop c.in-Err.ensures.only
    (λ told. part_more _ _ (c.rows.invariant.put (c.put_row.ensures.tells told)) (text_short c.args.job.now c.args.start.now c.args.header.now c.rows.number _ _ _ c.in-Some.ensures.lines c.if-row-gt-MOST_LINE.false) (c.put_row.ensures.part told))

pub returns-clause-follows : goal.returns-clause-follows
returns-clause-follows g c =
    follows_end c.args.job.now c.args.start.now c.args.header.now (lines_of c.args.rows.now) _ c.rows.number c.rows.bad (lines_of c.rows.rest.now) c.in_default.ensures.lines c.rows.invariant.answer c.rows.invariant.put
