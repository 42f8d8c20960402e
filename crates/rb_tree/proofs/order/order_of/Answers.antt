use Rattle.std.proofs.Common.{◌≡◌, sym, ◌∙◌, ap, inr}
use Rattle.std.proofs.lemmas.Result.{err_from_is_err_and}
use Rattle.rb_tree.specs.declared.faults.TreeFault.{TreeFault}
use Rattle.rb_tree.specs.declared.faults.TreeKind.TheVariants.{Cycle}
use Rattle.rb_tree.specs.declared.faults.WhichFile.TheVariants.{Urdf}
use Rattle.rb_tree.proofs.Whole.{few_of_slices, many_of_slices, parents_of_slices, root_of_slices, order_of_slices, cycle_of_slices}
use Rattle.rb_tree.proofs.order.order_of.Goals as goal

pub returns-in_err-check_links-clause-err : goal.returns-in_err-check_links-clause-err
returns-in_err-check_links-clause-err c =
    let p = err_from_is_err_and c.from_residual.result c.from_residual.ensures.1 in
    rw (p.1, p.2) (inr (λ srdf root. many_of_slices c.args.robot.now c.as_slice-links.result.now c.as_slice-joints.result.now (c.as_slice-links.ensures ∙ c.links.ensures)
    (c.as_slice-joints.ensures ∙ c.joints.ensures.same) srdf root c.in_err-check_links.field-0.0 c.in_err-check_links.ensures.err))

pub returns-in_err-check_parents-clause-err : goal.returns-in_err-check_parents-clause-err
returns-in_err-check_parents-clause-err c =
    let p = err_from_is_err_and c.from_residual-in_err-check_parents.result c.from_residual-in_err-check_parents.ensures.1 in
    rw (p.1, p.2) (inr (λ srdf root. parents_of_slices c.args.robot.now c.as_slice-links.result.now c.as_slice-joints.result.now (c.as_slice-links.ensures ∙ c.links.ensures)
    (c.as_slice-joints.ensures ∙ c.joints.ensures.same) srdf root c.in_err-check_parents.field-0.0 c.in_ok-check_links.ensures.ok c.in_err-check_parents.ensures.err))

pub returns-in_err-root-clause-err : goal.returns-in_err-root-clause-err
returns-in_err-root-clause-err c =
    let p = err_from_is_err_and c.from_residual-in_err-root.result c.from_residual-in_err-root.ensures.1 in
    rw (p.1, p.2) (inr (λ srdf root. root_of_slices c.args.robot.now c.as_slice-links.result.now c.as_slice-joints.result.now (c.as_slice-links.ensures ∙ c.links.ensures)
    (c.as_slice-joints.ensures ∙ c.joints.ensures.same) srdf root c.in_err-root.field-0.0 c.in_ok-check_links.ensures.ok c.in_ok-check_parents.ensures.ok c.in_err-root.ensures.err))

pub returns-in-Some-clause-err : goal.returns-in-Some-clause-err
returns-in-Some-clause-err c =
    let el = c.as_slice-links.ensures ∙ c.links.ensures in
    let ej = c.as_slice-joints.ensures ∙ c.joints.ensures.same in
    let link = c.index-links-link.result in
    let says : c.fault.result ≡ record { kind = Cycle; file = Urdf; at = link.place } =
    c.fault.ensures ∙ ap (λ l. let f : TreeFault = record { kind = Cycle; file = Urdf; at = l.place } in f) (sym c.index-links-link.is) in
    inr (cycle_of_slices c.args.robot.now c.as_slice-links.result.now c.as_slice-joints.result.now el ej c.in_ok-root.root c.in_ok-stems.stems.items c.as_slice.result.now
    c.as_slice.ensures.value c.in_ok-stems.ensures.grown c.in_ok-root.ensures.ok c.in_ok-check_links.ensures.ok c.in_ok-check_parents.ensures.ok c.in_ok-stems.ensures.closed
    c.in-Some.link link c.fault.result c.in-Some.ensures c.index-links-link.is says)

pub returns-clause-ok : goal.returns-clause-ok
returns-clause-ok c =
    order_of_slices c.args.robot.now c.as_slice-links.result.now c.as_slice-joints.result.now (c.as_slice-links.ensures ∙ c.links.ensures)
    (c.as_slice-joints.ensures ∙ c.joints.ensures.same) c.in_ok-root.root c.in_ok-stems.stems.items c.as_slice.result.now
    c.as_slice.ensures.value c.in_ok-stems.ensures.grown c.in_ok-root.ensures.ok c.in_ok-check_parents.ensures.ok c.in_default.ensures

pub returns-clause-few : goal.returns-clause-few
returns-clause-few c =
    few_of_slices c.args.robot.now c.as_slice-links.result.now c.as_slice-joints.result.now (c.as_slice-links.ensures ∙ c.links.ensures)
    (c.as_slice-joints.ensures ∙ c.joints.ensures.same) c.in_ok-check_links.ensures.ok
