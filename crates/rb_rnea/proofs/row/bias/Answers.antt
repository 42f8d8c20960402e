use Rattle.std.proofs.Common.{ap, sym, ◌∙◌, take, replicate}
use Rattle.std.proofs.lemmas.List.{take-replicate}
use Rattle.rb_num.specs.Interval.{zero_interval}
use Rattle.rb_tree.specs.declared.sizes.TheConstants.{MAX_COLUMNS}
use Rattle.rb_rnea.proofs.row.bias.Goals as goal

pub unaccelerated_row-requires-clause-zeros : goal.unaccelerated_row-requires-clause-zeros
unaccelerated_row-requires-clause-zeros c =
    ap (take c.nv-columns.result) c.no_accelerations-zeros.ensures
    ∙ take-replicate c.nv-columns.result MAX_COLUMNS zero_interval c.nv-columns.ensures.few
    ∙ ap (λ n. replicate n zero_interval) (c.nv-columns.ensures.count ∙ sym c.requires.fits.a)
