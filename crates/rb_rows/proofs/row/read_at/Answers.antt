use Rattle.std.proofs.Common.{ap, sym, subst, arith, get_or}
use Rattle.rb_rows.specs.declared.header.Target.TheVariants as To
use Rattle.rb_rows.specs.Header.{HasPlace}
use Rattle.rb_rows.proofs.RowSteps.{place_of, filled_ok, filled_err}
use Rattle.rb_rows.proofs.row.read_at.Goals as goal

pub read_field-requires : goal.read_field-requires
read_field-requires c =
    subst (λ targets. HasPlace c.args.into.now (get_or targets c.args.index To.Remark)) (sym c.targets.ensures)
    (place_of c.args.header.now c.args.into.now c.args.index To.Remark c.requires.places c.requires.within)

pub returns-clause-ok : goal.returns-clause-ok
returns-clause-ok c fields within here =
    filled_ok c.args.header.now fields c.args.index To.Remark _ _ c.args.into.now c.requires.within within
    (ap (λ targets. get_or targets c.args.index To.Remark) (sym c.targets.ensures)) here _ (omega arith) _ _ c.read_field.ensures.ok

pub returns-clause-err : goal.returns-clause-err
returns-clause-err c fields within here =
    filled_err c.args.header.now fields c.args.index To.Remark _ _ c.args.into.now c.requires.within within
    (ap (λ targets. get_or targets c.args.index To.Remark) (sym c.targets.ensures)) here _ (omega arith) _ c.read_field.ensures.err
