use Rattle.std.proofs.Common.{◌∙◌}
use Rattle.std.proofs.lemmas.Result.{err_from_is_err_and, IfErr-weaker}
use Rattle.rb_tree.specs.declared.faults.TreeKind.TheVariants.{TooManyColumns}
use Rattle.rb_tree.specs.Faults.{IsOfKind}
use Rattle.rb_tree.specs.Sizes.{PassColumns}
use Rattle.rb_tree.specs.Refusals.{IsFirstNameFault}
use Rattle.rb_tree.proofs.NameSteps.{root_name_first, name_twice_first, many_columns_first}
use Rattle.rb_tree.proofs.order.check_order.Goals as goal

pub returns-in_err-check_root-clause-err : goal.returns-in_err-check_root-clause-err
returns-in_err-check_root-clause-err c =
    let p = err_from_is_err_and c.from_residual.result c.from_residual.ensures.1 in
    rw (p.1, p.2) (root_name_first c.args.robot.now c.args.root.now c.as_slice-joints.result.now (c.as_slice-joints.ensures ∙ c.joints.ensures.same) c.args.stems.now
    c.joints.ensures.kept c.requires.ordered c.in_err-check_root.field-0.0 c.in_err-check_root.ensures.err)

pub returns-in_err-check_names-clause-err : goal.returns-in_err-check_names-clause-err
returns-in_err-check_names-clause-err c =
    let p = err_from_is_err_and c.from_residual-in_err-check_names.result c.from_residual-in_err-check_names.ensures.1 in
    rw (p.1, p.2) (name_twice_first c.args.robot.now c.args.root.now c.as_slice-joints.result.now (c.as_slice-joints.ensures ∙ c.joints.ensures.same) c.args.stems.now
    c.joints.ensures.kept c.requires.ordered c.in_err-check_names.field-0.0 c.in_ok-check_root.ensures.ok c.in_err-check_names.ensures.err)

pub returns-clause-err : goal.returns-clause-err
returns-clause-err c =
    IfErr-weaker c.check_columns.result (λ fault. IsOfKind TooManyColumns fault (PassColumns c.args.root.now c.as_slice-joints.result.now c.args.stems.now fault.at))
    (IsFirstNameFault c.args.robot.now c.args.root.now)
    (λ fault h. many_columns_first c.args.robot.now c.args.root.now c.as_slice-joints.result.now (c.as_slice-joints.ensures ∙ c.joints.ensures.same) c.args.stems.now
    c.joints.ensures.kept c.requires.ordered fault c.in_ok-check_root.ensures.ok c.in_ok-check_names.ensures.ok h) c.check_columns.ensures.err
